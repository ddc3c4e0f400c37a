-- A query that is followed to its end in a legal history gives what it should.
use Rattle.std.proofs.Common.{◌≡◌, ℕ, List, [], ◌∷◌, ◌++◌, Bool, true, false, cond, All, AllPairs, Contains, refl, sym, ap, ◌∙◌, subst, ⊎_elim}
use Rattle.std.specs.Prelude.{Some, IsTrue, find}
use Rattle.std.specs.declared.cmp.Ordering.{Ordering}
use Rattle.std.specs.declared.cmp.Ordering.TheVariants.{Less, Equal, Greater}
use Rattle.std.specs.Ordering.{ordering_then, is_eq, nat_cmp}
use Rattle.std.specs.Cmp.{IsTotalOrder, unsigned_Decides, unsigned_ties}
use Rattle.std.proofs.lemmas.Bool.{true≢false, not-true}
use Rattle.std.proofs.lemmas.Cmp.{on_total, then_total}
use Rattle.std.proofs.lemmas.Option.{none-some, same_Some}
use Rattle.std.proofs.lemmas.List.Elements.{All-contains, Contains-append_left, Contains-append_right, Contains-append_cases}
use Rattle.tab_keys.specs.Order.{text_cmp, key_cmp, key_lt, same_key}
use Rattle.tab_keys.specs.TableNames.{folded}
use Rattle.tab_keys.specs.TotalOrders.{text_cmp_total}
use Rattle.tab_keys.specs.declared.keys.Key.{Key}
use Rattle.tab_keys.proofs.OrderLaws.{lt_from_le, lt_to_le, key_lt_alike_left}
use Rattle.tab_rows.specs.Rows.{RowView, AreRising, row_at}
use Rattle.tab_rows.proofs.RowLaws.{All-row_at}
use Rattle.tab_page.specs.Pages.{matches}
use Rattle.tab_page.specs.declared.pages.Options.{Options}
use Rattle.tab_page.proofs.OnePageLaws.{OnePage, page_of-one, pair_lt as pairs_lt, pair_of, start_pair, key_lt_in_table}
use Rattle.tab_rows.proofs.Lists.{AllPairs-append}
use Rattle.tab_page.proofs.RisingLists.{All-from_each, Contains-here, Contains-there}
use Rattle.tab_history.specs.World.{IsWorld, table_of}
use Rattle.tab_history.specs.Legality.{State, after, after_all, Allows, Legal}
use Rattle.tab_history.specs.Followed.{Asked, Leg, Query, resolve_of, page_entry, entries_from, entries_of, rows_from, GoesOn, IsFollowedFrom, at_first, Leaves, IsUnwritten, pair_lt, first_key, IsRight, AreRight, FollowedWell}
use Rattle.tab_history.specs.declared.entries.Entry.{Entry}
use Rattle.tab_history.proofs.DoubtLaws.{LegalSteps, legal_steps}
use Rattle.tab_history.proofs.HistoryLaws.{steps_parts, rising_after, accepted_append, unwritten_row, unwritten_name, table_of-folded}

-- ---- pairs

pub pair_total : IsTotalOrder (λ (a b : List ℕ × List ℕ). ordering_then (text_cmp a.0 b.0) (text_cmp a.1 b.1))
pair_total = then_total (on_total (λ (pair : List ℕ × List ℕ). pair.0) text_cmp_total) (on_total (λ (pair : List ℕ × List ℕ). pair.1) text_cmp_total)

-- what is below a pair is below all that is not below it
below_across : (a pair b : List ℕ × List ℕ) → pairs_lt a pair ≡ true → pairs_lt b pair ≡ false → pairs_lt a b ≡ true
below_across = lt_to_le pair_total

-- what is not below a pair is not below all that the pair is not below
not_below_through : (a pair b : List ℕ × List ℕ) → pairs_lt a pair ≡ false → pairs_lt pair b ≡ false → pairs_lt a b ≡ false
not_below_through a pair b h k = by_test (pairs_lt a b) refl
  where
    by_test : (t : Bool) → pairs_lt a b ≡ t → pairs_lt a b ≡ false
    by_test true e = absurd (true≢false (sym (lt_from_le pair_total pair a b h e) ∙ k))
    by_test false e = e

-- ---- rows that are looked up

-- what a search finds is an element that passes
pub found_passes : (p : RowView → Bool) (rows : List RowView) (row : RowView) → find p rows ≡ Some row → Contains rows row × (p row ≡ true)
found_passes p [] row h = absurd (none-some row h)
found_passes p (first ∷ rows) row h = by_test (λ k. found_passes p rows row k) (p first) refl
  where
    by_test : (find p rows ≡ Some row → Contains rows row × (p row ≡ true)) → (t : Bool) → p first ≡ t → Contains (first ∷ rows) row × (p row ≡ true)
    by_test later true e =
        let same : first ≡ row = same_Some first row (ap (λ t. cond t (Some first) (find p rows)) (sym e) ∙ h) in
        (subst (λ other. Contains (first ∷ rows) other) same (Contains-here first rows), subst (λ other. p other ≡ true) same e)
    by_test later false e =
        let found = later (ap (λ t. cond t (Some first) (find p rows)) (sym e) ∙ h) in (Contains-there first row rows found.0, found.1)

pub row_at-found : (rows : List RowView) (key : Key) (row : RowView) → row_at rows key ≡ Some row → Contains rows row × (same_key row.key key ≡ true)
unfolding row_at
row_at-found rows key row h = found_passes (λ other. same_key other.key key) rows row h

-- a row of rising ones is the one at its key
pub row_at-own : (rows : List RowView) → AreRising rows → (row : RowView) → Contains rows row → row_at rows row.key ≡ Some row
row_at-own rows rising row within = All-contains (λ other. row_at rows other.key ≡ Some other) rows row (All-row_at rows rising) within

-- keys that no order tells apart are of one table
pub same_table : (a b : Key) → same_key a b ≡ true → a.table ≡ b.table
unfolding key_cmp
same_table a b h = (unsigned_Decides a.table b.table).0 (unsigned_ties a.table b.table ∙ first_ties (nat_cmp a.table b.table) (ordering_then (text_cmp a.pk b.pk) (text_cmp a.rk b.rk)) h)
  where
    first_ties : (o p : Ordering) → is_eq (ordering_then o p) ≡ true → is_eq o ≡ true
    first_ties Less p e = e
    first_ties Equal p e = refl
    first_ties Greater p e = e

-- ---- from one page to the last

-- the page that a legal history gives
pub page_one : (state : State) (asked : Asked) → AreRising state.world.rows → Allows state (page_entry asked) → OnePage state.world.rows asked.table asked.options asked.page
page_one state asked rising allowed =
    subst (OnePage state.world.rows asked.table asked.options) (sym allowed.1) (page_of-one state.world.rows rising state.bounds asked.table asked.options)

-- the next page begins at the token
starts_at : (before : Asked) (leg : Leg) (go : GoesOn before leg) → start_pair leg.asked.options ≡ go.token
starts_at before leg go = ap start_pair go.options

-- no row from a page on is below its start
pub rows_start : (state : State) (asked : Asked) (legs : List Leg) → AreRising state.world.rows → LegalSteps state (entries_from asked legs) → IsFollowedFrom asked legs
    → (row : RowView) → Contains (rows_from asked legs) row → pairs_lt (pair_of row.key) (start_pair asked.options) ≡ false
rows_start state asked [] rising legal followed row within = (page_one state asked rising legal.0.0).from row within
rows_start state asked (leg ∷ legs) rising legal followed row within =
    let one = page_one state asked rising legal.0.0 in
    let go = followed.0 in
    let parts = steps_parts (after state (page_entry asked)) leg.between (entries_from leg.asked legs) legal.1 in
    ⊎_elim
    (λ here. one.from row here)
    (λ later.
    not_below_through (pair_of row.key) go.token (start_pair asked.options)
    (subst (λ pair. pairs_lt (pair_of row.key) pair ≡ false) (starts_at asked leg go)
    (rows_start (after_all (after state (page_entry asked)) leg.between) leg.asked legs (rising_after (after state (page_entry asked)) leg.between parts.0 rising) parts.1 followed.1 row later))
    (one.ahead go.token go.next))
    (Contains-append_cases asked.page.rows (rows_from leg.asked legs) row within)

abbrev pub Rises : RowView → RowView → Type 0
Rises a b = IsTrue (pair_lt a.key b.key)

pub rows_rise : (state : State) (asked : Asked) (legs : List Leg) → AreRising state.world.rows → LegalSteps state (entries_from asked legs) → IsFollowedFrom asked legs → AllPairs Rises (rows_from asked legs)
rows_rise state asked [] rising legal followed = (page_one state asked rising legal.0.0).rising
rows_rise state asked (leg ∷ legs) rising legal followed =
    let one = page_one state asked rising legal.0.0 in
    let go = followed.0 in
    let parts = steps_parts (after state (page_entry asked)) leg.between (entries_from leg.asked legs) legal.1 in
    let later = rising_after (after state (page_entry asked)) leg.between parts.0 rising in
    AllPairs-append Rises asked.page.rows (rows_from leg.asked legs) one.rising
    (rows_rise (after_all (after state (page_entry asked)) leg.between) leg.asked legs later parts.1 followed.1)
    (All-from_each (λ row. All (Rises row) (rows_from leg.asked legs)) asked.page.rows
    (λ row here. All-from_each (Rises row) (rows_from leg.asked legs)
    (λ other there. below_across (pair_of row.key) go.token (pair_of other.key) (one.below go.token go.next row here)
    (subst (λ pair. pairs_lt (pair_of other.key) pair ≡ false) (starts_at asked leg go)
    (rows_start (after_all (after state (page_entry asked)) leg.between) leg.asked legs later parts.1 followed.1 other there)))))

page_right : (state : State) (asked : Asked) → AreRising state.world.rows → Allows state (page_entry asked) → IsRight state asked
page_right state asked rising allowed =
    All-from_each (λ row. (row_at state.world.rows row.key ≡ Some row) × (row.key.table ≡ asked.table) × IsTrue (matches asked.options row)) asked.page.rows
    (λ row within. let right = (page_one state asked rising allowed).right row within in (row_at-own state.world.rows rising row right.0, right.1, right.2))

pages_right : (state : State) (asked : Asked) (legs : List Leg) → AreRising state.world.rows → LegalSteps state (entries_from asked legs) → AreRight state asked legs
pages_right state asked [] rising legal = page_right state asked rising legal.0.0
pages_right state asked (leg ∷ legs) rising legal =
    let parts = steps_parts (after state (page_entry asked)) leg.between (entries_from leg.asked legs) legal.1 in
    (page_right state asked rising legal.0.0, pages_right (after_all (after state (page_entry asked)) leg.between) leg.asked legs (rising_after (after state (page_entry asked)) leg.between parts.0 rising) parts.1)

-- a look-up that comes after is of the same table, where the name keeps its number
pub looked_up : (key : Key) (name : List ℕ) (state : State) (before : Asked) (leg : Leg) (go : GoesOn before leg) → LegalSteps state leg.between → IsUnwritten key name state leg.between → folded before.name ≡ folded name
    → table_of state.world.names name ≡ Some before.table → leg.asked.table ≡ before.table
looked_up key name state before leg go legal unwritten folds given =
    let legal_parts = steps_parts state go.idle (resolve_of leg.asked ∷ go.waiting) (subst (LegalSteps state) go.between legal) in
    let unwritten_parts = accepted_append (Leaves key name) state go.idle (resolve_of leg.asked ∷ go.waiting) (subst (IsUnwritten key name state) go.between unwritten) in
    let kept = unwritten_name key name state go.idle (Some before.table) legal_parts.0 unwritten_parts.0 given in
    let resolved : Some leg.asked.table ≡ table_of (after_all state go.idle).world.names leg.asked.name = legal_parts.1.0.0.0 in
    same_Some leg.asked.table before.table (resolved ∙ (table_of-folded (after_all state go.idle).world.names leg.asked.name name (go.name ∙ folds) ∙ kept))

-- a row that the query asks for, from its start on, whose key is unwritten to the last page, is one of the rows
pub rows_whole : (key : Key) (name : List ℕ) (row : RowView) (state : State) (asked : Asked) (legs : List Leg) → AreRising state.world.rows → LegalSteps state (entries_from asked legs) → IsFollowedFrom asked legs
    → IsUnwritten key name state (entries_from asked legs) → folded asked.name ≡ folded name → table_of state.world.names name ≡ Some asked.table
    → row_at state.world.rows key ≡ Some row → row.key.table ≡ asked.table → matches asked.options row ≡ true → pairs_lt (pair_of row.key) (start_pair asked.options) ≡ false
    → Contains (rows_from asked legs) row
rows_whole key name row state asked [] rising legal followed unwritten folds given here table m from =
    let one = page_one state asked rising legal.0.0 in
    ⊎_elim
    (λ within. within)
    (λ beyond. absurd (none-some beyond.0 (sym followed ∙ beyond.1)))
    (one.whole row (row_at-found state.world.rows key row here).0 table m from)
rows_whole key name row state asked (leg ∷ legs) rising legal followed unwritten folds given here table m from =
    let one = page_one state asked rising legal.0.0 in
    let go = followed.0 in
    let paged = after state (page_entry asked) in
    let parts = steps_parts paged leg.between (entries_from leg.asked legs) legal.1 in
    let spared = accepted_append (Leaves key name) paged leg.between (entries_from leg.asked legs) unwritten.1 in
    let same = looked_up key name paged asked leg go parts.0 spared.0 folds given in
    ⊎_elim
    (λ within. Contains-append_left asked.page.rows (rows_from leg.asked legs) row within)
    (λ beyond.
    let token : beyond.0 ≡ go.token = same_Some beyond.0 go.token (sym beyond.1 ∙ go.next) in
    Contains-append_right asked.page.rows (rows_from leg.asked legs) row
    (rows_whole key name row (after_all paged leg.between) leg.asked legs (rising_after paged leg.between parts.0 rising) parts.1 followed.1
    spared.1 (go.name ∙ folds) (unwritten_name key name paged leg.between (Some asked.table) parts.0 spared.0 given ∙ ap Some (sym same))
    (unwritten_row key name paged leg.between (Some row) parts.0 spared.0 here) (table ∙ sym same)
    (ap (λ (options : Options). matches options row) go.options ∙ m)
    (ap (λ pair. pairs_lt (pair_of row.key) pair) (starts_at asked leg go ∙ sym token) ∙ beyond.2)))
    (one.whole row (row_at-found state.world.rows key row here).0 table m from)

-- ---- a query in a history

-- what a history says of a query that it has
pub record Had (opening : State) (before : List Entry) (query : Query) : Type 0 where
  pub first : LegalSteps (after_all opening before) (resolve_of query.first ∷ query.waiting)
  pub pages : LegalSteps (at_first (after_all opening before) query) (entries_from query.first query.legs)
  pub rising : AreRising (at_first (after_all opening before) query).world.rows

pub had : (opening : State) (history before later : List Entry) (query : Query) → IsWorld opening.world → Legal opening history → history ≡ before ++ (entries_of query ++ later) → Had opening before query
had opening history before later query world legal e =
    let outer = steps_parts opening before (entries_of query ++ later) (subst (LegalSteps opening) e (legal_steps opening history legal)) in
    let inner = steps_parts (after_all opening before) (entries_of query) later outer.1 in
    let parts = steps_parts (after_all opening before) (resolve_of query.first ∷ query.waiting) (entries_from query.first query.legs) inner.0 in
    record {
      first = parts.0;
      pages = parts.1;
      rising = rising_after (after_all opening before) (resolve_of query.first ∷ query.waiting) parts.0 (rising_after opening before outer.0 world.rows_rise);
    }

pub followed_well : (opening : State) (history : List Entry) → IsWorld opening.world → Legal opening history → FollowedWell opening history
followed_well opening history world legal = record {
  rising = λ before later query e followed.
      let it = had opening history before later query world legal e in
      rows_rise (at_first (after_all opening before) query) query.first query.legs it.rising it.pages followed;
  right = λ before later query e followed.
      let it = had opening history before later query world legal e in
      pages_right (at_first (after_all opening before) query) query.first query.legs it.rising it.pages;
  whole = λ before later query e followed key row here table from m unwritten.
      let it = had opening history before later query world legal e in
      let state = after_all opening before in
      let parts = accepted_append (Leaves key query.first.name) state (resolve_of query.first ∷ query.waiting) (entries_from query.first query.legs) unwritten in
      let same = (row_at-found (at_first state query).world.rows key row here).1 in
      let tables : row.key.table ≡ query.first.table = same_table row.key key same ∙ table in
      rows_whole key query.first.name row (at_first state query) query.first query.legs it.rising it.pages followed
      parts.1 refl (unwritten_name key query.first.name state (resolve_of query.first ∷ query.waiting) (Some query.first.table) it.first parts.0 (sym it.first.0.0.0))
      here tables m
      (sym (key_lt_in_table row.key (first_key query.first) tables) ∙ (key_lt_alike_left row.key key (first_key query.first) same ∙ not-true (key_lt key (first_key query.first)) from));
}
