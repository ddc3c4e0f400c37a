-- The names of tables where one is added or taken out.
use Rattle.std.proofs.Common.{◌≡◌, ℕ, List, [], ◌∷◌, Bool, true, false, cond, not, filter, All, AllPairs, refl, sym, ap, ◌∙◌}
use Rattle.std.specs.Prelude.{IsTrue, Some, None, find, option_map, bytes_eq, if◌then◌else◌}
use Rattle.std.specs.Ordering.{is_lt}
use Rattle.std.proofs.lemmas.Bool.{true≢false}
use Rattle.std.proofs.lemmas.Option.{none-some}
use Rattle.std.proofs.lemmas.List.Elements.{All-nil, All-cons, All-head, All-tail, All-weaker}
use Rattle.std.proofs.lemmas.List.Kept.{AllPairs-cons}
use Rattle.std.proofs.lemmas.Slice.Eq.{bytes_eq-Decides}
use Rattle.std.specs.Cmp.Lexicographic.{texts_ties}
use Rattle.tab_keys.specs.Order.{name_cmp}
use Rattle.tab_keys.specs.TableNames.{folded}
use Rattle.tab_keys.specs.TotalOrders.{name_cmp_total}
use Rattle.tab_keys.proofs.OrderLaws.{eq_between, lt_transitive}
use Rattle.tab_rows.proofs.Lists.{AllPairs-head, AllPairs-tail}
use Rattle.tab_page.proofs.RisingLists.{AllPairs-nil}
use Rattle.tab_history.specs.World.{Named, table_of, with_name, without_name}

-- one name is below another
abbrev pub Below : Named → Named → Type 0
Below a b = IsTrue (is_lt (name_cmp a.spelling b.spelling))

-- the two names are one, whatever their case
abbrev pub is_named : List ℕ → Named → Bool
is_named name named = bytes_eq (folded named.spelling) (folded name)

-- what holds of all names and of one more holds of all with it
pub All-with_name : (P : Named → Type 0) (names : List Named) (named : Named) → All P names → P named → All P (with_name names named)
unfolding with_name
All-with_name P [] named h k = All-cons P named [] k (All-nil P)
All-with_name P (first ∷ names) named h k = by_test (All-with_name P names named (All-tail P first names h) k) (is_lt (name_cmp named.spelling first.spelling))
  where
    by_test : All P (with_name names named) → (t : Bool) → All P (if t then named ∷ first ∷ names else first ∷ with_name names named)
    by_test rest true = All-cons P named (first ∷ names) k h
    by_test rest false = All-cons P first (with_name names named) (All-head P first names h) rest

-- what holds of all pairs, and of one more name with each, holds of all pairs with it
pub AllPairs-with_name : (R : Named → Named → Type 0) (names : List Named) (named : Named) → AllPairs R names → All (R named) names → All (λ other. R other named) names → AllPairs R (with_name names named)
unfolding with_name
AllPairs-with_name R [] named h before behind = AllPairs-cons R named [] (All-nil (R named)) (AllPairs-nil R)
AllPairs-with_name R (first ∷ names) named h before behind =
    by_test
    (AllPairs-with_name R names named (AllPairs-tail R first names h) (All-tail (R named) first names before) (All-tail (λ other. R other named) first names behind))
    (is_lt (name_cmp named.spelling first.spelling))
  where
    by_test : AllPairs R (with_name names named) → (t : Bool) → AllPairs R (if t then named ∷ first ∷ names else first ∷ with_name names named)
    by_test rest true = AllPairs-cons R named (first ∷ names) before h
    by_test rest false =
        AllPairs-cons R first (with_name names named)
        (All-with_name (R first) names named (AllPairs-head R first names h) (All-head (λ other. R other named) first names behind)) rest

-- a name that is absent is none of the names
absent_parts : (first : Named) (names : List Named) (name : List ℕ) → table_of (first ∷ names) name ≡ None → (is_named name first ≡ false) × (table_of names name ≡ None)
unfolding table_of
absent_parts first names name h = by_test (is_named name first) refl h
  where
    by_test : (t : Bool) → is_named name first ≡ t → option_map (λ (named : Named). named.table) (cond t (Some first) (find (is_named name) names)) ≡ None
        → (is_named name first ≡ false) × (option_map (λ (named : Named). named.table) (find (is_named name) names) ≡ None)
    by_test true e k = absurd (none-some first.table (sym k))
    by_test false e k = (e, k)

-- of two names that are apart one is below the other
apart_below : (a b : Named) → is_named b.spelling a ≡ false → is_lt (name_cmp b.spelling a.spelling) ≡ false → is_lt (name_cmp a.spelling b.spelling) ≡ true
unfolding name_cmp
apart_below a b apart h = by_test (is_lt (name_cmp a.spelling b.spelling)) refl
  where
    by_test : (t : Bool) → is_lt (name_cmp a.spelling b.spelling) ≡ t → is_lt (name_cmp a.spelling b.spelling) ≡ true
    by_test true e = e
    by_test false e = absurd (true≢false (sym (eq_between name_cmp_total a.spelling b.spelling e h) ∙ (sym (texts_ties (folded a.spelling) (folded b.spelling)) ∙ apart)))

-- the names still rise with one that was absent
pub rising-with_name : (names : List Named) (named : Named) → table_of names named.spelling ≡ None → AllPairs Below names → AllPairs Below (with_name names named)
unfolding with_name
rising-with_name [] named absent rising = AllPairs-cons Below named [] (All-nil (Below named)) (AllPairs-nil Below)
rising-with_name (first ∷ names) named absent rising =
    by_test (rising-with_name names named parts.1 (AllPairs-tail Below first names rising)) (is_lt (name_cmp named.spelling first.spelling)) refl
  where
    parts : (is_named named.spelling first ≡ false) × (table_of names named.spelling ≡ None)
    parts = absent_parts first names named.spelling absent

    by_test : AllPairs Below (with_name names named) → (t : Bool) → is_lt (name_cmp named.spelling first.spelling) ≡ t → AllPairs Below (if t then named ∷ first ∷ names else first ∷ with_name names named)
    by_test rest true e =
        AllPairs-cons Below named (first ∷ names)
        (All-cons (Below named) first names e
        (All-weaker (Below first) (Below named) (λ other h. lt_transitive name_cmp_total named.spelling first.spelling other.spelling e h) names (AllPairs-head Below first names rising)))
        rising
    by_test rest false e =
        AllPairs-cons Below first (with_name names named)
        (All-with_name (Below first) names named (AllPairs-head Below first names rising) (apart_below first named parts.0 e)) rest

-- a name that was added changes no other's number
pub table_of-with_other : (names : List Named) (named : Named) (name : List ℕ) → is_named name named ≡ false → table_of (with_name names named) name ≡ table_of names name
unfolding table_of with_name
table_of-with_other [] named name apart = rw apart refl
table_of-with_other (first ∷ names) named name apart = by_test (table_of-with_other names named name apart) (is_lt (name_cmp named.spelling first.spelling))
  where
    by_first : option_map (λ (it : Named). it.table) (find (is_named name) (with_name names named)) ≡ option_map (λ (it : Named). it.table) (find (is_named name) names) → (u : Bool)
        → option_map (λ (it : Named). it.table) (cond u (Some first) (find (is_named name) (with_name names named)))
        ≡ option_map (λ (it : Named). it.table) (cond u (Some first) (find (is_named name) names))
    by_first rest true = refl
    by_first rest false = rest

    by_test : option_map (λ (it : Named). it.table) (find (is_named name) (with_name names named)) ≡ option_map (λ (it : Named). it.table) (find (is_named name) names) → (t : Bool)
        → option_map (λ (it : Named). it.table) (find (is_named name) (if t then named ∷ first ∷ names else first ∷ with_name names named))
        ≡ option_map (λ (it : Named). it.table) (find (is_named name) (first ∷ names))
    by_test rest true = rw apart refl
    by_test rest false = by_first rest (is_named name first)

-- a name that was added and was absent has its number
pub table_of-with_own : (names : List Named) (named : Named) → table_of names named.spelling ≡ None → table_of (with_name names named) named.spelling ≡ Some named.table
unfolding table_of with_name
table_of-with_own [] named absent = rw own refl
  where
    own : is_named named.spelling named ≡ true
    own = (bytes_eq-Decides (folded named.spelling) (folded named.spelling)).1 refl
table_of-with_own (first ∷ names) named absent = by_test (table_of-with_own names named parts.1) (is_lt (name_cmp named.spelling first.spelling))
  where
    own : is_named named.spelling named ≡ true
    own = (bytes_eq-Decides (folded named.spelling) (folded named.spelling)).1 refl

    parts : (is_named named.spelling first ≡ false) × (table_of names named.spelling ≡ None)
    parts = absent_parts first names named.spelling absent

    by_test : option_map (λ (it : Named). it.table) (find (is_named named.spelling) (with_name names named)) ≡ Some named.table → (t : Bool)
        → option_map (λ (it : Named). it.table) (find (is_named named.spelling) (if t then named ∷ first ∷ names else first ∷ with_name names named)) ≡ Some named.table
    by_test rest true = rw own refl
    by_test rest false = rw parts.0 rest

-- nor does one that was taken out
pub table_of-without_other : (names : List Named) (dropped name : List ℕ) → bytes_eq (folded dropped) (folded name) ≡ false → table_of (without_name names dropped) name ≡ table_of names name
unfolding table_of without_name
table_of-without_other [] dropped name apart = refl
table_of-without_other (first ∷ names) dropped name apart = by_test (table_of-without_other names dropped name apart) (is_named dropped first) refl
  where
    left : List Named
    left = filter (λ named. not (is_named dropped named)) names

    by_first : option_map (λ (it : Named). it.table) (find (is_named name) left) ≡ option_map (λ (it : Named). it.table) (find (is_named name) names) → (u : Bool)
        → option_map (λ (it : Named). it.table) (cond u (Some first) (find (is_named name) left)) ≡ option_map (λ (it : Named). it.table) (cond u (Some first) (find (is_named name) names))
    by_first rest true = refl
    by_first rest false = rest

    by_test : option_map (λ (it : Named). it.table) (find (is_named name) left) ≡ option_map (λ (it : Named). it.table) (find (is_named name) names) → (t : Bool) → is_named dropped first ≡ t
        → option_map (λ (it : Named). it.table) (find (is_named name) (cond (not t) (first ∷ left) left)) ≡ option_map (λ (it : Named). it.table) (cond (is_named name first) (Some first) (find (is_named name) names))
    by_test rest true e =
        let same : folded first.spelling ≡ folded dropped = (bytes_eq-Decides (folded first.spelling) (folded dropped)).0 e in
        let other : is_named name first ≡ false = ap (λ folds. bytes_eq folds (folded name)) same ∙ apart in
        rest ∙ ap (λ t. option_map (λ (it : Named). it.table) (cond t (Some first) (find (is_named name) names))) (sym other)
    by_test rest false e = by_first rest (is_named name first)

-- and it is absent itself
pub table_of-without_own : (names : List Named) (name : List ℕ) → table_of (without_name names name) name ≡ None
unfolding table_of without_name
table_of-without_own [] name = refl
table_of-without_own (first ∷ names) name = by_test (table_of-without_own names name) (is_named name first) refl
  where
    left : List Named
    left = filter (λ named. not (is_named name named)) names

    by_test : option_map (λ (it : Named). it.table) (find (is_named name) left) ≡ None → (t : Bool) → is_named name first ≡ t
        → option_map (λ (it : Named). it.table) (find (is_named name) (cond (not t) (first ∷ left) left)) ≡ None
    by_test rest true e = rest
    by_test rest false e = rw e rest
