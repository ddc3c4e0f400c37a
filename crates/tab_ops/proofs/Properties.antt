-- A merge puts the given properties among the kept ones whose names are not given, in rising order.
use Rattle.std.proofs.Common.{◌≡◌, ◌≢◌, ℕ, List, [], ◌∷◌, ◌++◌, Bool, true, false, not, ◌&&◌, cond, filter, refl, sym, ap, subst, ◌∙◌, get_or}
use Rattle.std.specs.Prelude.{All, AllPairs, IsTrue, bytes_eq}
use Rattle.std.proofs.lemmas.Bool.{true≢false}
use Rattle.std.proofs.lemmas.Cmp.{nat_list_cmp_total}
use Rattle.std.proofs.lemmas.List.{append-nil}
use Rattle.std.proofs.lemmas.List.Elements.{All-nil, All-cons, All-head, All-tail, All-append, All-filter, All-weaker, filter_passes, filter-append}
use Rattle.std.proofs.lemmas.List.Kept.{AllPairs-cons, AllPairs-filter}
use Rattle.std.proofs.lemmas.List.Sorted.{IsPermutation-refl, IsPermutation-sym, IsPermutation-trans, IsPermutation-append_left, IsPermutation-middle, IsPermutation-filter_both, All-permutation}
use Rattle.std.proofs.lemmas.Map.Text.{is_eq-slice_cmp}
use Rattle.std.specs.Cmp.Lexicographic.{slice_cmp, bytes_decides}
use Rattle.std.specs.List.Sorted.{IsPermutation}
use Rattle.std.specs.Ordering.{is_lt, is_eq, nat_cmp, ordering_reverse}
use Rattle.std.specs.declared.cmp.Ordering.{Ordering}
use Rattle.std.specs.declared.cmp.Ordering.TheVariants.{Less, Equal, Greater}
use Rattle.tab_edm.specs.Entities.{name_lt, IsRising, value_of}
use Rattle.tab_edm.specs.declared.values.Property.{Property}
use Rattle.tab_edm.proofs.Order.{not_below_itself}
use Rattle.tab_ops.specs.Changes.{with_property, merged}
use Rattle.tab_ops.specs.Merges.{is_kept}
use Rattle.tab_rows.proofs.Lists.{AllPairs-head, AllPairs-tail, AllPairs-append}
use Rattle.tab_ops.proofs.Lists.{filters_agree}

-- ---- names

abbrev same_name : Property → Property → Bool
same_name a b = bytes_eq a.name b.name

-- a name below another is not the same, and one that is not below is the same or above
against : (here there : Ordering) → here ≡ ordering_reverse there → (not (is_eq here) && is_lt there) ≡ is_lt there
against here Less e = rw e refl
against here Equal e = rw e refl
against here Greater e = rw e refl

away : (here there : Ordering) → here ≡ ordering_reverse there → (not (is_eq here) && not (is_lt there)) ≡ is_lt here
away here Less e = rw e refl
away here Equal e = rw e refl
away here Greater e = rw e refl

flipped : (a b : Property) → slice_cmp nat_cmp a.name b.name ≡ ordering_reverse (slice_cmp nat_cmp b.name a.name)
flipped a b = nat_list_cmp_total.antisymm a.name b.name

below_differs : (q p : Property) → (not (same_name q p) && name_lt p q) ≡ name_lt p q
below_differs q p = ap (λ b. not b && name_lt p q) (sym (is_eq-slice_cmp q.name p.name)) ∙ against _ _ (flipped q p)

above_differs : (q p : Property) → (not (same_name q p) && not (name_lt p q)) ≡ name_lt q p
above_differs q p = ap (λ b. not b && not (name_lt p q)) (sym (is_eq-slice_cmp q.name p.name)) ∙ away _ _ (flipped q p)

name_lt_transitive : (a b c : Property) → IsTrue (name_lt a b) → IsTrue (name_lt b c) → IsTrue (name_lt a c)
name_lt_transitive a b c h k = ap is_lt (nat_list_cmp_total.trans a.name b.name c.name (less _ h) (less _ k))
  where
    less : (o : Ordering) → is_lt o ≡ true → o ≡ Less
    less Less e = refl
    less Equal e = absurd (true≢false (sym e))
    less Greater e = absurd (true≢false (sym e))

-- names that rise differ
differ : (a b : Property) → IsTrue (name_lt a b) → a.name ≢ b.name
differ a b below same = not_below_itself b (subst (λ (name : List ℕ). IsTrue (is_lt (slice_cmp nat_cmp name b.name))) same below)

rising_differ : (ps : List Property) → IsRising ps → AllPairs (λ a b. a.name ≢ b.name) ps
rising_differ ps rising = λ i j d lt h. differ (get_or ps i d) (get_or ps j d) (rising i j d lt h)

-- ---- which properties are kept

is_kept-cons : (q : Property) (qs : List Property) (p : Property) → is_kept (q ∷ qs) p ≡ (not (same_name q p) && is_kept qs p)
unfolding value_of
is_kept-cons q qs p = by_test (same_name q p) refl
  where
    by_test : (b : Bool) → same_name q p ≡ b → is_kept (q ∷ qs) p ≡ (not (same_name q p) && is_kept qs p)
    by_test true e = rw e refl
    by_test false e = rw e refl

is_kept-nil : (p : Property) → is_kept [] p ≡ true
unfolding value_of
is_kept-nil p = refl

-- a name that is kept differs from each given one
kept_differs : (given : List Property) (p : Property) → is_kept given p ≡ true → All (λ q. p.name ≢ q.name) given
kept_differs [] p h = All-nil (λ q. p.name ≢ q.name)
kept_differs (q ∷ qs) p h = by_test (λ k. kept_differs qs p k) (same_name q p) refl
  where
    parts : (b : Bool) → same_name q p ≡ b → (not b && is_kept qs p) ≡ true
    parts b e = ap (λ t. not t && is_kept qs p) (sym e) ∙ (sym (is_kept-cons q qs p) ∙ h)

    by_test : (is_kept qs p ≡ true → All (λ r. p.name ≢ r.name) qs) → (b : Bool) → same_name q p ≡ b → All (λ r. p.name ≢ r.name) (q ∷ qs)
    by_test later true e = absurd (true≢false (sym (parts true e)))
    by_test later false e = All-cons (λ r. p.name ≢ r.name) q qs (λ same. true≢false (sym ((bytes_decides q.name p.name).1 (sym same)) ∙ e)) (later (parts false e))

-- a property below all given ones is kept
pub below_kept : (p : Property) (given : List Property) → All (λ q. IsTrue (name_lt p q)) given → is_kept given p ≡ true
below_kept p [] h = is_kept-nil p
below_kept p (q ∷ qs) h =
    is_kept-cons q qs p
    ∙ (ap (λ b. not b && is_kept qs p) (not_same (same_name q p) refl) ∙ below_kept p qs (All-tail (λ r. IsTrue (name_lt p r)) q qs h))
  where
    not_same : (b : Bool) → same_name q p ≡ b → same_name q p ≡ false
    not_same true e = absurd (differ p q (All-head (λ r. IsTrue (name_lt p r)) q qs h) (sym ((bytes_decides q.name p.name).0 e)))
    not_same false e = e

-- the kept properties whose names are not given, and the given ones, differ in their names
pub joined_differ : (kept given : List Property) → IsRising kept → IsRising given → AllPairs (λ a b. a.name ≢ b.name) (filter (is_kept given) kept ++ given)
joined_differ kept given up above =
    AllPairs-append (λ a b. a.name ≢ b.name) (filter (is_kept given) kept) given
    (AllPairs-filter (λ a b. a.name ≢ b.name) (is_kept given) kept (rising_differ kept up))
    (rising_differ given above)
    (All-weaker (λ p. is_kept given p ≡ true) (λ p. All (λ q. p.name ≢ q.name) given) (kept_differs given) (filter (is_kept given) kept) (filter_passes (is_kept given) kept))

-- what holds of all kept and all given ones holds of them
pub joined_all : (P : Property → Type 0) (kept given : List Property) → All P kept → All P given → All P (filter (is_kept given) kept ++ given)
joined_all P kept given h k = All-append P (filter (is_kept given) kept) given (All-filter (is_kept given) P kept h) k

-- ---- the merged properties

with_property_rising : (kept : List Property) (property : Property) → IsRising kept → IsRising (with_property kept property)
unfolding with_property
with_property_rising kept property rising =
    let R = λ (a b : Property). IsTrue (name_lt a b) in
    let front = filter (λ (other : Property). name_lt other property) kept in
    let back = filter (λ (other : Property). name_lt property other) kept in
    let below : All (λ other. R other property) front = filter_passes (λ other. name_lt other property) kept in
    let above : All (R property) back = filter_passes (λ other. name_lt property other) kept in
    AllPairs-append R front (property ∷ back) (AllPairs-filter R (λ other. name_lt other property) kept rising)
    (AllPairs-cons R property back above (AllPairs-filter R (λ other. name_lt property other) kept rising))
    (All-weaker (λ other. R other property) (λ other. All (R other) (property ∷ back)) (λ other h. All-cons (R other) property back h (All-weaker (R property) (R other) (λ later k. name_lt_transitive other property later h k) back above)) front below)

pub merged_rising : (kept given : List Property) → IsRising kept → IsRising (merged kept given)
merged_rising kept [] rising = rising
merged_rising kept (property ∷ given) rising = merged_rising (with_property kept property) given (with_property_rising kept property rising)

-- what is kept of properties, beside a given one, is what stays below it and above it
kept_parts : (q : Property) (qs kept : List Property) →
    IsPermutation (filter (is_kept (q ∷ qs)) kept) (filter (is_kept qs) (filter (λ other. name_lt other q) kept) ++ filter (is_kept qs) (filter (λ other. name_lt q other) kept))
kept_parts q qs kept =
    let ys = filter (is_kept (q ∷ qs)) kept in
    let low : filter (λ p. name_lt p q) ys ≡ filter (is_kept qs) (filter (λ other. name_lt other q) kept) =
    filters_agree (λ p. name_lt p q) (is_kept (q ∷ qs)) (is_kept qs) (λ p. name_lt p q) (λ p. ap (λ b. b && name_lt p q) (is_kept-cons q qs p) ∙ (turned (not (same_name q p)) (is_kept qs p) (name_lt p q) ∙ ap (λ b. b && is_kept qs p) (below_differs q p))) kept in
    let high : filter (λ p. not (name_lt p q)) ys ≡ filter (is_kept qs) (filter (λ other. name_lt q other) kept) =
    filters_agree (λ p. not (name_lt p q)) (is_kept (q ∷ qs)) (is_kept qs) (λ p. name_lt q p) (λ p. ap (λ b. b && not (name_lt p q)) (is_kept-cons q qs p) ∙ (turned (not (same_name q p)) (is_kept qs p) (not (name_lt p q)) ∙ ap (λ b. b && is_kept qs p) (above_differs q p))) kept in
    rw (← low, ← high) (IsPermutation-filter_both (λ p. name_lt p q) (λ p. not (name_lt p q)) (λ p. refl) ys)
  where
    turned : (a b c : Bool) → ((a && b) && c) ≡ ((a && c) && b)
    turned true true true = refl
    turned true true false = refl
    turned true false true = refl
    turned true false false = refl
    turned false b c = refl

-- a new property is kept with those about it
with_property_kept : (kept : List Property) (q : Property) (qs : List Property) → is_kept qs q ≡ true →
    filter (is_kept qs) (with_property kept q) ≡ filter (is_kept qs) (filter (λ other. name_lt other q) kept) ++ q ∷ filter (is_kept qs) (filter (λ other. name_lt q other) kept)
unfolding with_property
with_property_kept kept q qs h =
    let front = filter (λ (other : Property). name_lt other q) kept in
    let back = filter (λ (other : Property). name_lt q other) kept in
    filter-append (is_kept qs) front (q ∷ back) ∙ ap (λ b. filter (is_kept qs) front ++ cond b (q ∷ filter (is_kept qs) back) (filter (is_kept qs) back)) h

-- the merged properties are the kept ones whose names are not given, and the given ones
pub merged_moves : (kept given : List Property) → IsRising given → IsPermutation (filter (is_kept given) kept ++ given) (merged kept given)
merged_moves kept [] rising =
    subst (λ (ps : List Property). IsPermutation ps kept) (sym (append-nil (filter (is_kept []) kept) ∙ all_kept kept)) (IsPermutation-refl kept)
  where
    all_kept : (ps : List Property) → filter (is_kept []) ps ≡ ps
    all_kept [] = refl
    all_kept (p ∷ ps) = rw (is_kept-nil p) (ap (λ qs. p ∷ qs) (all_kept ps))
merged_moves kept (q ∷ qs) rising =
    let L = filter (is_kept qs) (filter (λ (other : Property). name_lt other q) kept) in
    let R = filter (is_kept qs) (filter (λ (other : Property). name_lt q other) kept) in
    let ys = filter (is_kept (q ∷ qs)) kept in
    let later : IsPermutation (filter (is_kept qs) (with_property kept q) ++ qs) (merged (with_property kept q) qs) =
    merged_moves (with_property kept q) qs (AllPairs-tail (λ a b. IsTrue (name_lt a b)) q qs rising) in
    let split : filter (is_kept qs) (with_property kept q) ≡ L ++ q ∷ R = with_property_kept kept q qs (below_kept q qs (AllPairs-head (λ a b. IsTrue (name_lt a b)) q qs rising)) in
    let apart : IsPermutation (ys ++ q ∷ qs) ((L ++ R) ++ q ∷ qs) = IsPermutation-append_left (q ∷ qs) ys (L ++ R) (kept_parts q qs kept) in
    let front : IsPermutation ((L ++ R) ++ q ∷ qs) (q ∷ ((L ++ R) ++ qs)) = IsPermutation-middle (L ++ R) q qs in
    let back : IsPermutation (q ∷ ((L ++ R) ++ qs)) ((L ++ q ∷ R) ++ qs) = IsPermutation-sym _ _ (IsPermutation-append_left qs (L ++ q ∷ R) (q ∷ (L ++ R)) (IsPermutation-middle L q R)) in
    let last : IsPermutation ((L ++ q ∷ R) ++ qs) (merged (with_property kept q) qs) = subst (λ (ps : List Property). IsPermutation (ps ++ qs) (merged (with_property kept q) qs)) split later in
    IsPermutation-trans _ _ _ apart (IsPermutation-trans _ _ _ front (IsPermutation-trans _ _ _ back last))

-- what holds of all kept and all given properties holds of the merged ones
pub merged_all : (P : Property → Type 0) (kept given : List Property) → IsRising given → All P kept → All P given → All P (merged kept given)
merged_all P kept given rising h k =
    All-permutation P (filter (is_kept given) kept ++ given) (merged kept given) (merged_moves kept given rising) (joined_all P kept given h k)
