-- Keys that no order tells apart, and the floors of keys after a change.
use Rattle.std.proofs.Common.{◌≡◌, ℕ, ◌+◌, ◌<◌, ◌⊎◌, List, [], ◌∷◌, ◌++◌, Bool, true, false, cond, not, ◌&&◌, ◌||◌, map, All, Contains, refl, sym, ap, ◌∙◌, inl, inr, arith}
use Rattle.std.specs.Prelude.{Option, Some, find, option_map, unwrap_or}
use Rattle.std.specs.List.{list_any}
use Rattle.std.proofs.lemmas.Bool.{true≢false}
use Rattle.std.proofs.lemmas.List.Elements.{All-nil, All-cons, All-head, All-tail}
use Rattle.tab_keys.specs.Order.{same_key}
use Rattle.tab_keys.specs.Spans.{Interval, has}
use Rattle.tab_keys.specs.declared.keys.Key.{Key}
use Rattle.tab_keys.proofs.OrderLaws.{same_key_equivalence, is_before_alike}
use Rattle.tab_rows.specs.Rows.{RowView, row_at}
use Rattle.tab_rows.proofs.RowLaws.{same_key_itself}
use Rattle.tab_page.proofs.RisingLists.{Contains-cons_cases}
use Rattle.tab_history.specs.World.{Floors, floor_of, raised}

-- ---- keys that are the same

-- keys that are the same are told from others alike
pub alike : (a b : Key) → same_key a b ≡ true → (other : Key) → same_key other a ≡ same_key other b
alike a b h other = same_key_equivalence.symm other a ∙ (same_key_equivalence.congr a b other h ∙ same_key_equivalence.symm b other)

-- so they have one row
pub row_at-alike : (rows : List RowView) (a b : Key) → same_key a b ≡ true → row_at rows a ≡ row_at rows b
unfolding row_at
row_at-alike rows a b h = λ i. find (λ row. alike a b h row.key i) rows

-- and one floor
pub floor_of-alike : (floors : Floors) (a b : Key) → same_key a b ≡ true → floor_of floors a ≡ floor_of floors b
unfolding floor_of
floor_of-alike floors a b h = λ i.
    unwrap_or (option_map (λ change. change.1) (find (λ change. alike a b h change.0 i) floors.later))
    (unwrap_or (option_map (λ part. part.1) (find (λ part. in_span part.0 i) floors.opening)) 0)
  where
    in_span : (span : Interval) → has span a ≡ has span b
    in_span span = λ i. not (is_before_alike a b span.lo h i) && is_before_alike a b span.hi h i

or_true : (t : Bool) → (t || true) ≡ true
or_true true = refl
or_true false = refl

-- a key is among those of which one is the same
pub any_contains : (keys : List Key) (key : Key) → Contains keys key → list_any (λ other. same_key other key) keys ≡ true
any_contains [] key h = let below : h.0 < 0 = h.1 in absurd (omega arith)
any_contains (first ∷ keys) key h = by_cases (any_contains keys key) (Contains-cons_cases first key keys h)
  where
    by_cases : (Contains keys key → list_any (λ other. same_key other key) keys ≡ true) → (first ≡ key) ⊎ Contains keys key → (same_key first key || list_any (λ other. same_key other key) keys) ≡ true
    by_cases later (inl same) = ap (λ t. t || list_any (λ other. same_key other key) keys) (ap (λ (k : Key). same_key k key) same ∙ same_key_itself key)
    by_cases later (inr within) = ap (λ t. same_key first key || t) (later within) ∙ or_true (same_key first key)

pub none_of_them : (keys : List Key) (key : Key) → list_any (λ other. same_key other key) keys ≡ false → All (λ other. same_key other key ≡ false) keys
none_of_them [] key h = All-nil (λ other. same_key other key ≡ false)
none_of_them (first ∷ keys) key h = by_test (none_of_them keys key) (same_key first key) refl
  where
    by_test : (list_any (λ other. same_key other key) keys ≡ false → All (λ other. same_key other key ≡ false) keys) → (t : Bool) → same_key first key ≡ t → All (λ other. same_key other key ≡ false) (first ∷ keys)
    by_test rest true e = absurd (true≢false (ap (λ t. t || list_any (λ other. same_key other key) keys) (sym e) ∙ h))
    by_test rest false e = All-cons (λ other. same_key other key ≡ false) first keys e (rest (ap (λ t. t || list_any (λ other. same_key other key) keys) (sym e) ∙ h))

-- a key that is told from all of them is not changed with them
pub none_changed : (keys : List Key) (key : Key) → All (λ other. same_key other key ≡ false) keys → list_any (λ other. same_key other key) keys ≡ false
none_changed [] key h = refl
none_changed (first ∷ keys) key h =
    ap (λ t. t || list_any (λ other. same_key other key) keys) (All-head (λ other. same_key other key ≡ false) first keys h)
    ∙ none_changed keys key (All-tail (λ other. same_key other key ≡ false) first keys h)

-- what holds of all keys holds at one that is the same as one of them
pub any_holds : (P : Key → Type 0) (key : Key) → ((other : Key) → same_key other key ≡ true → P other → P key) → (keys : List Key) → All P keys → list_any (λ other. same_key other key) keys ≡ true → P key
any_holds P key moves [] all h = absurd (true≢false (sym h))
any_holds P key moves (first ∷ keys) all h = by_test (λ k. any_holds P key moves keys (All-tail P first keys all) k) (same_key first key) refl
  where
    by_test : (list_any (λ other. same_key other key) keys ≡ true → P key) → (t : Bool) → same_key first key ≡ t → P key
    by_test rest true e = moves first e (All-head P first keys all)
    by_test rest false e = rest (ap (λ t. t || list_any (λ other. same_key other key) keys) (sym e) ∙ h)

-- ---- floors

abbrev pub changed_by : Key → List Key → Bool
changed_by key keys = list_any (λ other. same_key other key) keys

-- the floor of a key after a change: past the tick, if the key is one of those changed
pub floor_of-raised_all : (floors : Floors) (keys : List Key) (tick : ℕ) (key : Key) → floor_of (raised floors keys tick) key ≡ cond (changed_by key keys) (tick + 1) (floor_of floors key)
unfolding floor_of raised
floor_of-raised_all floors [] tick key = refl
floor_of-raised_all floors (first ∷ keys) tick key = by_test (floor_of-raised_all floors keys tick key) (same_key first key)
  where
    rest : ℕ
    rest = unwrap_or (option_map (λ part. part.1) (find (λ part. has part.0 key) floors.opening)) 0

    later : Option (Key × ℕ)
    later = find (λ (change : Key × ℕ). same_key change.0 key) (map (λ other. (other, tick + 1)) keys ++ floors.later)

    by_test : unwrap_or (option_map (λ (change : Key × ℕ). change.1) later) rest ≡ cond (changed_by key keys) (tick + 1) (floor_of floors key) → (t : Bool)
        → unwrap_or (option_map (λ (change : Key × ℕ). change.1) (cond t (Some (first, tick + 1)) later)) rest ≡ cond (t || changed_by key keys) (tick + 1) (floor_of floors key)
    by_test ih true = refl
    by_test ih false = ih
