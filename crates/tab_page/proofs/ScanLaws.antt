-- A scan through rows, of which some are listed: what was found among the first of those, and how many are left to look at.
use Rattle.std.proofs.Common.{◌≡◌, ℕ, zero, suc, ◌+◌, ◌-◌, ◌<◌, ◌≤◌, ◌⊎◌, inl, inr, List, [], ◌∷◌, ◌++◌, length, take, drop, filter, Bool, true, false, cond, ◌||◌, ◌==◌, Option, Some, None, refl, sym, ap, ◌∙◌, subst, arith, add-one, length-append}
use Rattle.std.specs.Prelude.{All, slice_get}
use Rattle.std.proofs.lemmas.Bool.{eq-eqb, ne_eqb, true≢false}
use Rattle.std.proofs.lemmas.List.Elements.{All-head, All-weaker, filter-append}
use Rattle.std.proofs.Math.Nat.{sub-zero, zero-add}
use Rattle.tab_keys.specs.Order.{key_lt}
use Rattle.tab_keys.specs.declared.keys.Key.{Key}
use Rattle.tab_rows.specs.Rows.{RowView}
use Rattle.tab_filter.specs.Windows.{WindowView}
use Rattle.tab_page.specs.Pages.{prefix_length}
use Rattle.tab_page.specs.Scans.{is_within, InOneRun, AreInOneRun}
use Rattle.tab_rows.proofs.Lists.{AllPairs-head, AllPairs-tail, filter_none}

-- ---- the first of what is left

pub record Moved {X : Type 0} (xs : List X) (n : ℕ) (x : X) (left : List X) : Type 0 where
  pub taken : take (suc n) xs ≡ take n xs ++ x ∷ []
  pub dropped : drop (suc n) xs ≡ left

moved : {X : Type 0} (xs : List X) (n : ℕ) (x : X) (left : List X) → drop n xs ≡ x ∷ left → Moved xs n x left
moved [] zero x left h = cc h
moved [] (suc n) x left h = cc h
moved (y ∷ ys) zero x left h = record { taken = ap (λ z. z ∷ []) (cc h); dropped = cc h }
moved (y ∷ ys) (suc n) x left h =
    let rest = moved ys n x left h in
    record { taken = ap (λ zs. y ∷ zs) rest.taken; dropped = rest.dropped }

module _ {X : Type 0} (listed m : X → Bool) (top most : ℕ) where
  -- after so many of all that is listed, where these rows are left
  pub record ScanSoFar (all rest found : List X) (looked : ℕ) : Type 0 where
    pub found_is : found ≡ filter m (take looked all)
    pub rest_is : filter listed rest ≡ drop looked all
    pub few : looked ≤ most
    pub so_far : prefix_length m top most all ≡ looked + prefix_length m (top - length found) (most - looked) (drop looked all)

  pub at_first : (rows found : List X) → found ≡ [] → ScanSoFar (filter listed rows) rows found 0
  at_first rows found none = record {
    found_is = none;
    rest_is = refl;
    few = omega arith;
    so_far = subst (λ (xs : List X). prefix_length m top most (filter listed rows) ≡ 0 + prefix_length m (top - length xs) (most - 0) (filter listed rows)) (sym none) (first (filter listed rows));
  }
    where
      first : (xs : List X) → prefix_length m top most xs ≡ 0 + prefix_length m (top - 0) (most - 0) xs
      first xs = simp (zero-add, sub-zero)

  -- a row that is not listed is passed by
  pub passed : (all rest found : List X) (looked : ℕ) (x : X) → listed x ≡ false → ScanSoFar all (x ∷ rest) found looked → ScanSoFar all rest found looked
  passed all rest found looked x out w = record {
    found_is = w.found_is;
    rest_is = sym (ap (λ (t : Bool). cond t (x ∷ filter listed rest) (filter listed rest)) out) ∙ w.rest_is;
    few = w.few;
    so_far = w.so_far;
  }

  -- what is left begins with a row that is listed
  head : (all rest found : List X) (looked : ℕ) (x : X) → listed x ≡ true → ScanSoFar all (x ∷ rest) found looked → drop looked all ≡ x ∷ filter listed rest
  head all rest found looked x in_list w = sym w.rest_is ∙ ap (λ (t : Bool). cond t (x ∷ filter listed rest) (filter listed rest)) in_list

  counted : (xs : List X) (x : X) (a b : ℕ) → 0 < a → 0 < b → prefix_length m a b (x ∷ xs) ≡ suc (prefix_length m (a - cond (m x) 1 0) (b - 1) xs)
  counted xs x a b some more = rw (ne_eqb a 0 (omega arith), ne_eqb b 0 (omega arith)) refl

  grown : (found : List X) (x : X) → length (found ++ filter m (x ∷ [])) ≡ length found + cond (m x) 1 0
  grown found x = length-append found (filter m (x ∷ [])) ∙ ap (λ (n : ℕ). length found + n) (by_test (m x))
    where
      by_test : (t : Bool) → length (cond t (x ∷ []) []) ≡ cond t 1 0
      by_test true = refl
      by_test false = refl

  -- a listed row is looked at
  pub looked_at_row : (all rest found more : List X) (looked : ℕ) (x : X) → listed x ≡ true → looked < most → length found < top → more ≡ found ++ filter m (x ∷ []) → ScanSoFar all (x ∷ rest) found looked → ScanSoFar all rest more (looked + 1)
  looked_at_row all rest found more looked x in_list some room adds w =
      rw add-one (record {
        found_is = adds ∙ (ap (λ (xs : List X). xs ++ filter m (x ∷ [])) w.found_is ∙ (sym (filter-append m (take looked all) (x ∷ [])) ∙ ap (filter m) (sym step.taken)));
        rest_is = sym step.dropped;
        few = some;
        so_far = w.so_far ∙ (ap (λ (n : ℕ). looked + n) left ∙ shifted looked _);
      })
    where
      step : Moved all looked x (filter listed rest)
      step = moved all looked x (filter listed rest) (head all rest found looked x in_list w)

      tops : (top - length found) - cond (m x) 1 0 ≡ top - length more
      tops = by_count (cond (m x) 1 0) (ap length adds ∙ grown found x)
        where
          by_count : (c : ℕ) → length more ≡ length found + c → (top - length found) - c ≡ top - length more
          by_count c e = omega arith

      left : prefix_length m (top - length found) (most - looked) (drop looked all) ≡ suc (prefix_length m (top - length more) (most - suc looked) (drop (suc looked) all))
      left =
          ap (prefix_length m (top - length found) (most - looked)) (head all rest found looked x in_list w)
          ∙ (counted (filter listed rest) x (top - length found) (most - looked) (omega arith) (omega arith)
          ∙ (ap (λ (a : ℕ). suc (prefix_length m a (most - looked - 1) (filter listed rest))) tops
          ∙ (ap (λ (b : ℕ). suc (prefix_length m (top - length more) b (filter listed rest))) (omega arith)
          ∙ ap (λ (xs : List X). suc (prefix_length m (top - length more) (most - suc looked) xs)) (sym step.dropped))))

      shifted : (a b : ℕ) → a + suc b ≡ suc a + b
      shifted a b = omega arith

  -- where the scan ends
  pub record Ended (all found : List X) (rest : Option X) (looked : ℕ) : Type 0 where
    pub length_is : prefix_length m top most all ≡ looked
    pub found_all : found ≡ filter m (take (prefix_length m top most all) all)
    pub rest_all : rest ≡ slice_get (drop (prefix_length m top most all) all) 0

  ended : (all found : List X) (looked : ℕ) (rest : Option X) → prefix_length m top most all ≡ looked → found ≡ filter m (take looked all) → rest ≡ slice_get (drop looked all) 0 → Ended all found rest looked
  ended all found looked rest e h k = record {
    length_is = e;
    found_all = h ∙ ap (λ (n : ℕ). filter m (take n all)) (sym e);
    rest_all = k ∙ ap (λ (n : ℕ). slice_get (drop n all) 0) (sym e);
  }

  full : (xs : List X) (a b : ℕ) → (a ≡ 0) ⊎ (b ≡ 0) → prefix_length m a b xs ≡ 0
  full [] a b h = refl
  full (x ∷ xs) a b (inl h) = rw (eq-eqb a 0 h) refl
  full (x ∷ xs) a b (inr h) = or_true (a == 0) (eq-eqb b 0 h)
    where
      or_true : (t : Bool) → (b == 0) ≡ true → cond (t || b == 0) 0 (suc (prefix_length m (a - cond (m x) 1 0) (b - 1) xs)) ≡ 0
      or_true true e = refl
      or_true false e = ap (λ (u : Bool). cond u 0 (suc (prefix_length m (a - cond (m x) 1 0) (b - 1) xs))) e

  none_left : (n : ℕ) → n + 0 ≡ n
  none_left n = omega arith

  -- at the first row behind a full prefix
  pub ended_full : (all rest found : List X) (looked : ℕ) (x : X) → listed x ≡ true → (top - length found ≡ 0) ⊎ (most - looked ≡ 0) → ScanSoFar all (x ∷ rest) found looked → Ended all found (Some x) looked
  ended_full all rest found looked x in_list stop w =
      ended all found looked (Some x)
      (w.so_far ∙ (ap (λ (n : ℕ). looked + n) (full (drop looked all) (top - length found) (most - looked) stop) ∙ none_left looked))
      w.found_is
      (sym (ap (λ (xs : List X). slice_get xs 0) (head all rest found looked x in_list w)))

  -- or where nothing listed is left
  pub ended_last : (all rest found : List X) (looked : ℕ) → filter listed rest ≡ [] → ScanSoFar all rest found looked → Ended all found None looked
  ended_last all rest found looked none w =
      let nothing : drop looked all ≡ [] = sym w.rest_is ∙ none in
      ended all found looked None
      (w.so_far ∙ (ap (λ (xs : List X). looked + prefix_length m (top - length found) (most - looked) xs) nothing ∙ none_left looked))
      w.found_is
      (sym (ap (λ (xs : List X). slice_get xs 0) nothing))

-- ---- rows in one run

module _ (start : Key) (all : WindowView) where
  -- behind a row that lies above the start and is left out no row is left in
  pub run_ends : (row : RowView) (rows : List RowView) → AreInOneRun start all (row ∷ rows) → key_lt start row.key ≡ true → is_within start.table all row ≡ false → filter (is_within start.table all) (row ∷ rows) ≡ []
  run_ends row rows run above out =
      ap (λ (t : Bool). cond t (row ∷ filter (is_within start.table all) rows) (filter (is_within start.table all) rows)) out
      ∙ filter_none (is_within start.table all) rows
      (All-weaker (InOneRun start all row) (λ r. is_within start.table all r ≡ false) (λ r h. h.1 above out) rows (AllPairs-head (InOneRun start all) row rows run))

  pub run_rest : (row : RowView) (rows : List RowView) → AreInOneRun start all (row ∷ rows) → AreInOneRun start all rows
  run_rest row rows run = AllPairs-tail (InOneRun start all) row rows run

  -- the steps so far: none, or one for each row that was looked at and one more, and then all rows that are left lie above the start
  abbrev Above : List RowView → Type 0
  Above rows = All (λ row. key_lt start row.key ≡ true) rows

  pub record Stepped (rows : List RowView) (before now looked : ℕ) : Type 0 where
    pub either : (now ≡ before) ⊎ (Above rows × (now ≤ before + looked + 1))

  behind : (row : RowView) (rows : List RowView) → AreInOneRun start all (row ∷ rows) → Above rows
  behind row rows run = All-weaker (InOneRun start all row) (λ r. key_lt start r.key ≡ true) (λ r h. h.0) rows (AllPairs-head (InOneRun start all) row rows run)

  pub stepped_over : (row : RowView) (rows : List RowView) (before now next looked : ℕ) → next ≡ now + 1 → AreInOneRun start all (row ∷ rows) → Stepped (row ∷ rows) before now looked → Stepped rows before next (looked + 1)
  stepped_over row rows before now next looked e run s = record { either = inr (behind row rows run, by_case s.either) }
    where
      by_case : (now ≡ before) ⊎ (Above (row ∷ rows) × (now ≤ before + looked + 1)) → next ≤ before + (looked + 1) + 1
      by_case (inl h) = omega arith
      by_case (inr h) = let bound = h.1 in omega arith

  pub stepped_past : (row : RowView) (rows : List RowView) (before now next looked : ℕ) → next ≡ now + 1 → key_lt start row.key ≡ false → AreInOneRun start all (row ∷ rows) → Stepped (row ∷ rows) before now looked → Stepped rows before next looked
  stepped_past row rows before now next looked e low run s = record { either = inr (behind row rows run, by_case s.either) }
    where
      by_case : (now ≡ before) ⊎ (Above (row ∷ rows) × (now ≤ before + looked + 1)) → next ≤ before + looked + 1
      by_case (inl h) = omega arith
      by_case (inr h) = absurd (true≢false (sym (All-head (λ r. key_lt start r.key ≡ true) row rows h.0) ∙ low))

  pub steps_few : (rows : List RowView) (before now looked : ℕ) → Stepped rows before now looked → now ≤ before + looked + 1
  steps_few rows before now looked s = by_case s.either
    where
      by_case : (now ≡ before) ⊎ (Above rows × (now ≤ before + looked + 1)) → now ≤ before + looked + 1
      by_case (inl h) = omega arith
      by_case (inr h) = h.1

-- a comparison with a row's key, as the row is seen
pub compared : (start : Key) (inside row : RowView) (lt t : Bool) → inside ≡ row → lt ≡ key_lt start inside.key → lt ≡ t → key_lt start row.key ≡ t
compared start inside row lt t e f g = ap (λ (r : RowView). key_lt start r.key) (sym e) ∙ (sym f ∙ g)
