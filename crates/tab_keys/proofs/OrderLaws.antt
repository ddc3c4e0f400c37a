-- What follows from the order of keys: of keys below one another, of keys that are the same, and of keys before a bound.
use Rattle.std.proofs.Common.{◌≡◌, ℕ, ◌<◌, List, [], ◌∷◌, Bool, true, false, Ordering, Decides, refl, sym, ap, ◌∙◌, arith}
use Rattle.std.specs.declared.cmp.Ordering.TheVariants.{Less, Equal, Greater}
use Rattle.std.specs.Cmp.{IsTotalOrder, IsEquivalence, unsigned_Decides, unsigned_ties, nat_cmp_is}
use Rattle.std.specs.Cmp.Lexicographic.{slice_cmp, texts_ties, bytes_decides}
use Rattle.std.specs.Ordering.{ordering_reverse, ordering_then, nat_cmp, is_lt, is_eq, is_gt}
use Rattle.std.specs.Str.{IsUtf8, bytes_eq}
use Rattle.std.proofs.lemmas.Cmp.{alike_right, tied_itself, eq_by_cmp_equiv}
use Rattle.std.proofs.lemmas.Bool.Decides.{nat_tests, same_from_decides}
use Rattle.tab_keys.specs.declared.keys.Key.{Key}
use Rattle.tab_keys.specs.declared.bounds.Bound.{Bound}
use Rattle.tab_keys.specs.declared.bounds.Bound.TheVariants.{At, End}
use Rattle.tab_keys.specs.KeyTexts.{units_of}
use Rattle.tab_keys.specs.Order.{text_cmp, key_cmp, key_lt, same_key, head_key, is_before, bound_lt, bound_cmp}
use Rattle.tab_keys.proofs.Units.{units_of-nil}
use Rattle.tab_keys.proofs.Injective.{units_of_injective}
use Rattle.tab_keys.specs.TotalOrders.{text_cmp_total, key_cmp_total, bound_cmp_total}

-- ---- orderings and their tests

pub Less_from_is_lt : (r : Ordering) → is_lt r ≡ true → r ≡ Less
Less_from_is_lt Less e = refl
Less_from_is_lt Equal e = cc
Less_from_is_lt Greater e = cc

pub Equal_from_is_eq : (r : Ordering) → is_eq r ≡ true → r ≡ Equal
Equal_from_is_eq Less e = cc
Equal_from_is_eq Equal e = refl
Equal_from_is_eq Greater e = cc

-- an ordering that is neither Less nor Greater
Equal_between : (r s : Ordering) → r ≡ ordering_reverse s → is_lt r ≡ false → is_lt s ≡ false → is_eq r ≡ true
Equal_between Less s e h k = cc
Equal_between Equal s e h k = refl
Equal_between Greater Less e h k = cc
Equal_between Greater Equal e h k = cc
Equal_between Greater Greater e h k = cc

reversed_is_gt : (r s : Ordering) → r ≡ ordering_reverse s → is_gt r ≡ is_lt s
reversed_is_gt Less Less e = cc
reversed_is_gt Less Equal e = cc
reversed_is_gt Less Greater e = refl
reversed_is_gt Equal Less e = cc
reversed_is_gt Equal Equal e = refl
reversed_is_gt Equal Greater e = cc
reversed_is_gt Greater Less e = refl
reversed_is_gt Greater Equal e = cc
reversed_is_gt Greater Greater e = cc

-- the parts of two orderings in turn that find nothing to tell apart
both_Equal : (r s : Ordering) → ordering_then r s ≡ Equal → (r ≡ Equal) × (s ≡ Equal)
both_Equal Less s e = cc
both_Equal Equal s e = (refl, e)
both_Equal Greater s e = cc

-- ---- a total order by its tests

module _ {K : Type 0} {R : K → K → Ordering} (o : IsTotalOrder R) where
  pub lt_irreflexive : (a : K) → is_lt (R a a) ≡ false
  lt_irreflexive a = ap is_lt (tied_itself o a)

  pub lt_transitive : (a b c : K) → is_lt (R a b) ≡ true → is_lt (R b c) ≡ true → is_lt (R a c) ≡ true
  lt_transitive a b c h k = ap is_lt (o.trans a b c (Less_from_is_lt (R a b) h) (Less_from_is_lt (R b c) k))

  pub lt_asymmetric : (a b : K) → is_lt (R a b) ≡ true → is_lt (R b a) ≡ false
  lt_asymmetric a b h = ap is_lt (o.antisymm b a ∙ ap ordering_reverse (Less_from_is_lt (R a b) h))

  -- of two values one is less, or they are the same
  pub eq_between : (a b : K) → is_lt (R a b) ≡ false → is_lt (R b a) ≡ false → is_eq (R a b) ≡ true
  eq_between a b = Equal_between (R a b) (R b a) (o.antisymm a b)

  pub lt_alike_left : (a b c : K) → is_eq (R a b) ≡ true → is_lt (R a c) ≡ is_lt (R b c)
  lt_alike_left a b c h = ap is_lt (o.congr a b c (Equal_from_is_eq (R a b) h))

  pub lt_alike_right : (a b c : K) → is_eq (R a b) ≡ true → is_lt (R c a) ≡ is_lt (R c b)
  lt_alike_right a b c h = ap is_lt (alike_right o a b c (Equal_from_is_eq (R a b) h))

  -- a value that is not above the one is below all that the one is below
  pub lt_from_le : (a b c : K) → is_lt (R b a) ≡ false → is_lt (R b c) ≡ true → is_lt (R a c) ≡ true
  lt_from_le a b c h k = by_test (is_lt (R a b)) refl
    where
      by_test : (t : Bool) → is_lt (R a b) ≡ t → is_lt (R a c) ≡ true
      by_test true e = lt_transitive a b c e k
      by_test false e = lt_alike_left a b c (eq_between a b e h) ∙ k

  pub lt_to_le : (a b c : K) → is_lt (R a b) ≡ true → is_lt (R c b) ≡ false → is_lt (R a c) ≡ true
  lt_to_le a b c h k = by_test (is_lt (R b c)) refl
    where
      by_test : (t : Bool) → is_lt (R b c) ≡ t → is_lt (R a c) ≡ true
      by_test true e = lt_transitive a b c h e
      by_test false e = sym (lt_alike_right b c a (eq_between b c e k)) ∙ h

-- ---- keys

pub key_lt_irreflexive : (a : Key) → key_lt a a ≡ false
key_lt_irreflexive = lt_irreflexive key_cmp_total

pub key_lt_transitive : (a b c : Key) → key_lt a b ≡ true → key_lt b c ≡ true → key_lt a c ≡ true
key_lt_transitive = lt_transitive key_cmp_total

pub key_lt_asymmetric : (a b : Key) → key_lt a b ≡ true → key_lt b a ≡ false
key_lt_asymmetric = lt_asymmetric key_cmp_total

pub same_key_between : (a b : Key) → key_lt a b ≡ false → key_lt b a ≡ false → same_key a b ≡ true
same_key_between = eq_between key_cmp_total

pub key_lt_from_le : (a b c : Key) → key_lt b a ≡ false → key_lt b c ≡ true → key_lt a c ≡ true
key_lt_from_le = lt_from_le key_cmp_total

pub key_lt_to_le : (a b c : Key) → key_lt a b ≡ true → key_lt c b ≡ false → key_lt a c ≡ true
key_lt_to_le = lt_to_le key_cmp_total

pub same_key_equivalence : IsEquivalence same_key
same_key_equivalence = eq_by_cmp_equiv key_cmp_total

pub key_lt_alike_left : (a b c : Key) → same_key a b ≡ true → key_lt a c ≡ key_lt b c
key_lt_alike_left = lt_alike_left key_cmp_total

pub key_lt_alike_right : (a b c : Key) → same_key a b ≡ true → key_lt c a ≡ key_lt c b
key_lt_alike_right = lt_alike_right key_cmp_total

pub same_key_not_lt : (a b : Key) → same_key a b ≡ true → key_lt a b ≡ false
same_key_not_lt a b h = ap is_lt (Equal_from_is_eq (key_cmp a b) h)

-- ---- texts

-- texts that are not told apart are one text
pub same_text : (a b : List ℕ) → IsUtf8 a → IsUtf8 b → text_cmp a b ≡ Equal → a ≡ b
unfolding text_cmp
same_text a b u v e =
    let units = (bytes_decides (units_of a) (units_of b)).0 (texts_ties (units_of a) (units_of b) ∙ ap is_eq e) in
    units_of_injective a b u v units

-- the comparison of two texts' bytes tells whether their units are told apart
pub bytes_eq-is : (a b : List ℕ) → IsUtf8 a → IsUtf8 b → bytes_eq a b ≡ is_eq (text_cmp a b)
bytes_eq-is a b u v =
    let same : Decides (is_eq (text_cmp a b)) (a ≡ b) =
    (λ e. same_text a b u v (Equal_from_is_eq (text_cmp a b) e), λ e. ap (λ (text : List ℕ). is_eq (text_cmp a text)) (sym e) ∙ ap is_eq (tied_itself text_cmp_total a)) in
    same_from_decides (bytes_eq a b) (is_eq (text_cmp a b)) (bytes_decides a b) same

-- no text is below the empty one
pub text_cmp-nil : (text : List ℕ) → is_lt (text_cmp text []) ≡ false
unfolding text_cmp
text_cmp-nil text = ap (λ (units : List ℕ). is_lt (slice_cmp nat_cmp (units_of text) units)) units_of-nil ∙ below_none (units_of text)
  where
    below_none : (units : List ℕ) → is_lt (slice_cmp nat_cmp units []) ≡ false
    below_none [] = refl
    below_none (x ∷ xs) = refl

-- ---- keys by their parts

-- keys of texts that are not told apart are one key
pub same_key_is : (a b : Key) → IsUtf8 a.pk → IsUtf8 a.rk → IsUtf8 b.pk → IsUtf8 b.rk → same_key a b ≡ true → a ≡ b
unfolding key_cmp
same_key_is a b p r q s e =
    let parts = both_Equal (nat_cmp a.table b.table) _ (Equal_from_is_eq (key_cmp a b) e) in
    let texts = both_Equal (text_cmp a.pk b.pk) (text_cmp a.rk b.rk) parts.1 in
    let table = (unsigned_Decides a.table b.table).0 (unsigned_ties a.table b.table ∙ ap is_eq parts.0) in
    let pk = same_text a.pk b.pk p q texts.0 in
    let rk = same_text a.rk b.rk r s texts.1 in
    λ i. record { table = table i; pk = pk i; rk = rk i }

pub same_key_at : (a b : Key) → a ≡ b → same_key a b ≡ true
same_key_at a b e = ap (λ (key : Key). same_key a key) (sym e) ∙ same_key_equivalence.refl a

pub key_lt_by_table : (a b : Key) → a.table < b.table → key_lt a b ≡ true
unfolding key_cmp
key_lt_by_table a b h = ap (λ (r : Ordering). is_lt (ordering_then r (ordering_then (text_cmp a.pk b.pk) (text_cmp a.rk b.rk)))) (sym (nat_cmp_is a.table b.table Less h))

pub key_lt_by_pk : (a b : Key) → a.table ≡ b.table → is_lt (text_cmp a.pk b.pk) ≡ true → key_lt a b ≡ true
unfolding key_cmp
key_lt_by_pk a b e h =
    let table = nat_cmp_is a.table b.table Equal e in
    let pk = Less_from_is_lt (text_cmp a.pk b.pk) h in
    ap (λ (r : Ordering). is_lt (ordering_then r (ordering_then (text_cmp a.pk b.pk) (text_cmp a.rk b.rk)))) (sym table)
    ∙ ap (λ (r : Ordering). is_lt (ordering_then r (text_cmp a.rk b.rk))) pk

pub key_lt_by_rk : (a b : Key) → a.table ≡ b.table → a.pk ≡ b.pk → key_lt a b ≡ is_lt (text_cmp a.rk b.rk)
unfolding key_cmp
key_lt_by_rk a b e f =
    let table = nat_cmp_is a.table b.table Equal e in
    let pk = ap (λ (text : List ℕ). text_cmp a.pk text) (sym f) ∙ tied_itself text_cmp_total a.pk in
    ap (λ (r : Ordering). is_lt (ordering_then r (ordering_then (text_cmp a.pk b.pk) (text_cmp a.rk b.rk)))) (sym table)
    ∙ ap (λ (r : Ordering). is_lt (ordering_then r (text_cmp a.rk b.rk))) pk

-- ---- keys before a bound

-- no key of a partition stands before the partition's bound
pub head_key_least : (key : Key) → key_lt key (head_key key.table key.pk) ≡ false
head_key_least key = key_lt_by_rk key (head_key key.table key.pk) refl refl ∙ text_cmp-nil key.rk

pub is_before_own_bound : (key : Key) → is_before key (At key.table key.pk) ≡ false
is_before_own_bound key = head_key_least key

not_below_zero : (n : ℕ) → is_lt (nat_cmp n 0) ≡ false
not_below_zero n = grind (arith, nat_tests)

-- no key stands before the first bound of all
pub first_head_key_least : (key : Key) → key_lt key (head_key 0 []) ≡ false
unfolding key_cmp
first_head_key_least key = not_less (nat_cmp key.table 0) (text_cmp key.pk []) (text_cmp key.rk []) (not_below_zero key.table) (text_cmp-nil key.pk) (text_cmp-nil key.rk)
  where
    not_less : (table pk rk : Ordering) → is_lt table ≡ false → is_lt pk ≡ false → is_lt rk ≡ false → is_lt (ordering_then table (ordering_then pk rk)) ≡ false
    not_less Less pk rk e f g = e
    not_less Equal Less rk e f g = f
    not_less Equal Equal rk e f g = g
    not_less Equal Greater rk e f g = refl
    not_less Greater pk rk e f g = refl

pub is_before_first_bound : (key : Key) → is_before key (At 0 []) ≡ false
is_before_first_bound key = first_head_key_least key

-- a key below one that stands before a bound stands before it
pub is_before_below : (a b : Key) (bound : Bound) → key_lt a b ≡ true → is_before b bound ≡ true → is_before a bound ≡ true
is_before_below a b (At table pk) h k = key_lt_transitive a b (head_key table pk) h k
is_before_below a b End h k = refl

pub is_before_from_le : (a b : Key) (bound : Bound) → key_lt b a ≡ false → is_before b bound ≡ true → is_before a bound ≡ true
is_before_from_le a b (At table pk) h k = key_lt_from_le a b (head_key table pk) h k
is_before_from_le a b End h k = refl

pub is_before_alike : (a b : Key) (bound : Bound) → same_key a b ≡ true → is_before a bound ≡ is_before b bound
is_before_alike a b (At table pk) h = key_lt_alike_left a b (head_key table pk) h
is_before_alike a b End h = refl

-- a key that stands before a bound is below each that does not
pub key_lt_across : (a b : Key) (bound : Bound) → is_before a bound ≡ true → is_before b bound ≡ false → key_lt a b ≡ true
key_lt_across a b (At table pk) h k = key_lt_to_le a (head_key table pk) b h k
key_lt_across a b End h k = cc

-- the first key of a partition stands before a bound where the partition's own bound does
pub is_before-head_key : (table : ℕ) (pk : List ℕ) (bound : Bound) → is_before (head_key table pk) bound ≡ bound_lt (At table pk) bound
is_before-head_key table pk (At other key) = refl
is_before-head_key table pk End = refl

-- ---- bounds

pub bound_lt_is : (a b : Bound) → bound_lt a b ≡ is_lt (bound_cmp a b)
bound_lt_is (At t p) (At u q) = refl
bound_lt_is (At t p) End = refl
bound_lt_is End (At u q) = refl
bound_lt_is End End = refl

pub bound_lt_irreflexive : (a : Bound) → bound_lt a a ≡ false
bound_lt_irreflexive a = bound_lt_is a a ∙ lt_irreflexive bound_cmp_total a

pub bound_lt_transitive : (a b c : Bound) → bound_lt a b ≡ true → bound_lt b c ≡ true → bound_lt a c ≡ true
bound_lt_transitive a b c h k =
    bound_lt_is a c ∙ lt_transitive bound_cmp_total a b c (sym (bound_lt_is a b) ∙ h) (sym (bound_lt_is b c) ∙ k)

-- a key before a bound stands before each later one
pub is_before_later : (key : Key) (a b : Bound) → bound_lt a b ≡ true → is_before key a ≡ true → is_before key b ≡ true
is_before_later key (At t p) (At u q) h k = key_lt_transitive key (head_key t p) (head_key u q) k h
is_before_later key (At t p) End h k = refl
is_before_later key End b h k = cc

pub is_before_not_earlier : (key : Key) (a b : Bound) → bound_lt b a ≡ false → is_before key a ≡ true → is_before key b ≡ true
is_before_not_earlier key (At t p) (At u q) h k = key_lt_to_le key (head_key t p) (head_key u q) k h
is_before_not_earlier key End (At u q) h k = cc
is_before_not_earlier key a End h k = refl

then_Equal : (r s : Ordering) → s ≡ Equal → ordering_then r s ≡ r
then_Equal Less s e = refl
then_Equal Equal s e = e
then_Equal Greater s e = refl

-- the bounds of two partitions compare as their tables and then their keys
pub key_cmp_heads : (table other : ℕ) (pk key : List ℕ) → key_cmp (head_key table pk) (head_key other key) ≡ ordering_then (nat_cmp table other) (text_cmp pk key)
unfolding key_cmp
key_cmp_heads table other pk key = ap (ordering_then (nat_cmp table other)) (then_Equal (text_cmp pk key) (text_cmp [] []) (tied_itself text_cmp_total []))

lt_then : (r s : Ordering) → is_lt s ≡ false → is_lt (ordering_then r s) ≡ is_lt r
lt_then Less s e = refl
lt_then Equal s e = e
lt_then Greater s e = refl

-- no row key decides whether a key stands before a bound
pub is_before_At : (key : Key) (table : ℕ) (pk : List ℕ) → is_before key (At table pk) ≡ is_lt (ordering_then (nat_cmp key.table table) (text_cmp key.pk pk))
unfolding key_cmp
is_before_At key table pk = by_table (nat_cmp key.table table)
  where
    by_table : (r : Ordering) → is_lt (ordering_then r (ordering_then (text_cmp key.pk pk) (text_cmp key.rk []))) ≡ is_lt (ordering_then r (text_cmp key.pk pk))
    by_table Less = refl
    by_table Equal = lt_then (text_cmp key.pk pk) (text_cmp key.rk []) (text_cmp-nil key.rk)
    by_table Greater = refl
