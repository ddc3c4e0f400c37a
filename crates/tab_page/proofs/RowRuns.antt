-- The rows that a page goes through: among them are all that it lists, and these stand in one run.
use Rattle.std.proofs.Common.{◌≡◌, ℕ, ◌+◌, ◌≤◌, List, [], ◌∷◌, take, drop, filter, get_or, Bool, true, false, cond, not, ◌&&◌, ◌==◌, Option, refl, sym, ap, ◌∙◌, subst, arith, nat_cmp}
use Rattle.std.specs.Prelude.{All, IsTrue, slice_get, unwrap_or}
use Rattle.std.specs.Option.{option_to_list}
use Rattle.std.specs.declared.cmp.Ordering.{Ordering}
use Rattle.std.specs.declared.cmp.Ordering.TheVariants.{Equal}
use Rattle.std.specs.Ordering.{ordering_then, is_lt}
use Rattle.std.specs.Cmp.{nat_cmp_is}
use Rattle.std.proofs.lemmas.Bool.{and_parts, and_from, and_right, eqb-true, eq-eqb, true≢false, not-true}
use Rattle.std.proofs.lemmas.Bool.Decides.{nat_tests}
use Rattle.std.proofs.lemmas.List.Elements.{All-head, All-tail, All-weaker, filter_passes}
use Rattle.tab_keys.specs.declared.keys.Key.{Key}
use Rattle.tab_keys.specs.declared.bounds.Bound.{Bound}
use Rattle.tab_keys.specs.Order.{text_cmp, key_cmp, key_lt, is_before}
use Rattle.tab_keys.specs.Spans.{Interval, has as in_span}
use Rattle.tab_keys.specs.TotalOrders.{text_cmp_total}
use Rattle.tab_keys.proofs.OrderLaws.{key_lt_from_le, key_lt_asymmetric, key_lt_irreflexive, lt_from_le}
use Rattle.tab_rows.specs.Rows.{RowView, AreRising, rows_from, rows_past, is_past}
use Rattle.tab_rows.proofs.RowLaws.{AreRising-rows_from, AreRising-rows_past, is_past-is}
use Rattle.tab_filter.specs.Windows.{WindowView, has, below, lower_corner}
use Rattle.tab_page.specs.declared.pages.Options.{Options}
use Rattle.tab_page.specs.declared.pages.Page.{Page}
use Rattle.tab_page.specs.Pages.{window, matches, key_at, later_key, corner, start_key, is_listed, listed, looked_at, prefix_length, most_looked_at, next_of, page_up_to, page_below}
use Rattle.tab_page.specs.Scans.{is_within, rows_at, InOneRun, AreInOneRun}
use Rattle.tab_page.proofs.WindowRuns.{IsRun, window_runs, no_gap, not_small_above, above_small, above_corner, lt_first}

-- ---- keys of one table

same_table_lt : (a b : Key) → a.table ≡ b.table → key_lt a b ≡ is_lt (ordering_then (text_cmp a.pk b.pk) (text_cmp a.rk b.rk))
unfolding key_cmp
same_table_lt a b e = ap (λ (r : Ordering). is_lt (ordering_then r (ordering_then (text_cmp a.pk b.pk) (text_cmp a.rk b.rk)))) (sym (nat_cmp_is a.table b.table Equal e))

le_by_lt : (a b : ℕ) (o : Ordering) → is_lt (ordering_then (nat_cmp a b) o) ≡ true → a ≤ b
le_by_lt a b o h = grind (arith, nat_tests)

tables_rise : (a b : Key) → key_lt a b ≡ true → a.table ≤ b.table
unfolding key_cmp
tables_rise a b h = le_by_lt a.table b.table _ h

-- ---- where a page begins

later-not_below : (a b : Key) → key_lt (later_key a b) b ≡ false
later-not_below a b = by_test (key_lt a b) refl
  where
    by_test : (t : Bool) → key_lt a b ≡ t → key_lt (later_key a b) b ≡ false
    by_test true e = ap (λ (u : Bool). key_lt (cond u b a) b) e ∙ key_lt_irreflexive b
    by_test false e = ap (λ (u : Bool). key_lt (cond u b a) b) e ∙ e

later-table : (a b : Key) (table : ℕ) → a.table ≡ table → b.table ≡ table → (later_key a b).table ≡ table
later-table a b table e f = by_test (key_lt a b)
  where
    by_test : (t : Bool) → (cond t b a).table ≡ table
    by_test true = f
    by_test false = e

-- a key of a table that is not below the window's corner
pub record IsStart (start : Key) (table : ℕ) (all : WindowView) : Type 0 where
  pub of_table : start.table ≡ table
  pub low : is_lt (ordering_then (text_cmp start.pk (lower_corner all.partitions)) (text_cmp start.rk (lower_corner all.rows))) ≡ false

-- ---- one run

module _ (start : Key) (all : WindowView) (run : IsRun all) (begins : IsStart start start.table all) where
  -- the row is not below the start, and its partition is not too small
  abbrev Reached : RowView → Type 0
  Reached row = (key_lt row.key start ≡ false) × (row.key.table ≡ start.table → below all row.key.pk ≡ false)

  within_between : (a b : RowView) → Reached a → key_lt start a.key ≡ true → key_lt a.key b.key ≡ true → is_within start.table all b ≡ true → is_within start.table all a ≡ true
  within_between a b reached above rising there =
      let parts = and_parts (b.key.table == start.table) (has all b.key.pk b.key.rk) there in
      let last : b.key.table ≡ start.table = eqb-true b.key.table start.table parts.0 in
      let low = tables_rise start a.key above in
      let high = tables_rise a.key b.key rising in
      let table : a.key.table ≡ start.table = omega arith in
      and_from (a.key.table == start.table) (has all a.key.pk a.key.rk) (eq-eqb a.key.table start.table table)
      (no_gap all start.pk start.rk a.key.pk a.key.rk b.key.pk b.key.rk run begins.low
      (sym (same_table_lt start a.key (sym table)) ∙ above)
      (reached.1 table)
      (sym (same_table_lt b.key a.key (last ∙ sym table)) ∙ key_lt_asymmetric a.key b.key rising)
      parts.1)

  in_one_run : (a b : RowView) → Reached a → key_lt a.key b.key ≡ true → InOneRun start all a b
  in_one_run a b reached rising =
      (key_lt_from_le start a.key b.key reached.0 rising, λ above out. by_test above out (is_within start.table all b) refl)
    where
      by_test : key_lt start a.key ≡ true → is_within start.table all a ≡ false → (t : Bool) → is_within start.table all b ≡ t → is_within start.table all b ≡ false
      by_test above out true e = absurd (true≢false (sym (within_between a b reached above rising e) ∙ out))
      by_test above out false e = e

  are_in_one_run : (rows : List RowView) → AreRising rows → All Reached rows → AreInOneRun start all rows
  are_in_one_run rows rising reached i j d first within = in_one_run (get_or rows i d) (get_or rows j d) (reached i d (omega arith)) (rising i j d first within)

  from_reached : (row : RowView) → below all start.pk ≡ false → not (key_lt row.key start) ≡ true → Reached row
  from_reached row reached h =
      let low : key_lt row.key start ≡ false = not-true (key_lt row.key start) h in
      (low, λ table. not_small_above all.partitions start.pk row.key.pk (lt_first (text_cmp row.key.pk start.pk) (text_cmp row.key.rk start.rk) (sym (same_table_lt row.key start table) ∙ low)) reached)

  past_partition : (row : RowView) → is_past start.table start.pk row.key ≡ true → row.key.table ≡ start.table → is_lt (text_cmp start.pk row.key.pk) ≡ true
  past_partition row past table = sym (ap (λ (r : Ordering). is_lt (ordering_then r (text_cmp start.pk row.key.pk))) (sym (nat_cmp_is start.table row.key.table Equal (sym table)))) ∙ past

  past_above : (row : RowView) → is_past start.table start.pk row.key ≡ true → key_lt start row.key ≡ true
  past_above row past = (is_past-is start.table start.pk row.key).0 past start.rk

  past_reached : (row : RowView) → is_past start.table start.pk row.key ≡ true → Reached row
  past_reached row past = (
    key_lt_asymmetric start row.key (past_above row past),
    λ table. above_corner all.partitions row.key.pk (lt_from_le text_cmp_total (lower_corner all.partitions) start.pk row.key.pk (lt_first (text_cmp start.pk (lower_corner all.partitions)) (text_cmp start.rk (lower_corner all.rows)) begins.low) (past_partition row past table)),
  )

  pub rows_in_one_run : (rows : List RowView) → AreRising rows → AreInOneRun start all (rows_at rows start all)
  unfolding rows_at rows_from rows_past
  rows_in_one_run rows rising = by_test (below all start.pk) refl
    where
      by_test : (t : Bool) → below all start.pk ≡ t → AreInOneRun start all (cond t (rows_past rows start.table start.pk) (rows_from rows start))
      by_test true e =
          are_in_one_run (rows_past rows start.table start.pk) (AreRising-rows_past rows start.table start.pk rising)
          (All-weaker (λ row. is_past start.table start.pk row.key ≡ true) Reached past_reached (rows_past rows start.table start.pk) (filter_passes (λ row. is_past start.table start.pk row.key) rows))
      by_test false e =
          are_in_one_run (rows_from rows start) (AreRising-rows_from rows start rising)
          (All-weaker (λ row. not (key_lt row.key start) ≡ true) Reached (λ row h. from_reached row e h) (rows_from rows start) (filter_passes (λ row. not (key_lt row.key start)) rows))

  -- ---- all that is listed

  twice : (p q r : RowView → Bool) (rows : List RowView) → All (λ row. (q row && p row) ≡ r row) rows → filter p (filter q rows) ≡ filter r rows
  twice p q r [] h = refl
  twice p q r (row ∷ rows) h = by_tests (twice p q r rows (All-tail (λ x. (q x && p x) ≡ r x) row rows h)) (q row) (p row) refl refl (All-head (λ x. (q x && p x) ≡ r x) row rows h)
    where
      by_tests : filter p (filter q rows) ≡ filter r rows → (s t : Bool) → q row ≡ s → p row ≡ t → (q row && p row) ≡ r row → filter p (filter q (row ∷ rows)) ≡ filter r (row ∷ rows)
      by_tests rest true true e f k =
          let g : r row ≡ true = sym k ∙ and_from (q row) (p row) e f in
          rw (e, f, g) (ap (λ xs. row ∷ xs) rest)
      by_tests rest true false e f k =
          let g : r row ≡ false = sym k ∙ (ap (λ t. t && p row) e ∙ f) in
          rw (e, f, g) rest
      by_tests rest false t e f k =
          let g : r row ≡ false = sym k ∙ ap (λ t. t && p row) e in
          rw (e, g) rest

  module _ (hi : Bound) where
    from_listed : (row : RowView) → is_before row.key hi ≡ true → (not (key_lt row.key start) && is_within start.table all row) ≡ is_listed start.table all start hi row
    from_listed row before = by_tests (row.key.table == start.table) (not (key_lt row.key start)) (has all row.key.pk row.key.rk) (is_before row.key hi) before
      where
        by_tests : (a b d t : Bool) → t ≡ true → (b && (a && d)) ≡ (a && b && t && d)
        by_tests true true d t e = ap (λ (u : Bool). u && d) (sym e)
        by_tests true false d t e = refl
        by_tests false true d t e = refl
        by_tests false false d t e = refl

    past_listed : (row : RowView) → below all start.pk ≡ true → is_before row.key hi ≡ true → (is_past start.table start.pk row.key && is_within start.table all row) ≡ is_listed start.table all start hi row
    past_listed row small before = by_test (is_within start.table all row) refl
      where
        by_test : (t : Bool) → is_within start.table all row ≡ t → (is_past start.table start.pk row.key && is_within start.table all row) ≡ is_listed start.table all start hi row
        by_test true e =
            let parts = and_parts (row.key.table == start.table) (has all row.key.pk row.key.rk) e in
            let table : row.key.table ≡ start.table = eqb-true row.key.table start.table parts.0 in
            let past : is_past start.table start.pk row.key ≡ true =
            ap (λ (r : Ordering). is_lt (ordering_then r (text_cmp start.pk row.key.pk))) (sym (nat_cmp_is start.table row.key.table Equal (sym table)))
            ∙ above_small all row.key.pk row.key.rk start.pk parts.1 small in
            let from : not (key_lt row.key start) ≡ true = ap not (key_lt_asymmetric start row.key (past_above row past)) in
            and_from (is_past start.table start.pk row.key) (is_within start.table all row) past e
            ∙ (sym (and_from (not (key_lt row.key start)) (is_within start.table all row) from e) ∙ from_listed row before)
        by_test false e =
            and_right (is_past start.table start.pk row.key) (is_within start.table all row) e
            ∙ (sym (and_right (not (key_lt row.key start)) (is_within start.table all row) e) ∙ from_listed row before)

    pub rows_listed : (rows : List RowView) → All (λ row. is_before row.key hi ≡ true) rows → filter (is_within start.table all) (rows_at rows start all) ≡ filter (is_listed start.table all start hi) rows
    unfolding rows_at rows_from rows_past
    rows_listed rows before = by_test (below all start.pk) refl
      where
        by_test : (t : Bool) → below all start.pk ≡ t → filter (is_within start.table all) (cond t (rows_past rows start.table start.pk) (rows_from rows start)) ≡ filter (is_listed start.table all start hi) rows
        by_test true e =
            twice (is_within start.table all) (λ row. is_past start.table start.pk row.key) (is_listed start.table all start hi) rows
            (All-weaker (λ row. is_before row.key hi ≡ true) (λ row. (is_past start.table start.pk row.key && is_within start.table all row) ≡ is_listed start.table all start hi row) (λ row h. past_listed row e h) rows before)
        by_test false e =
            twice (is_within start.table all) (λ row. not (key_lt row.key start)) (is_listed start.table all start hi) rows
            (All-weaker (λ row. is_before row.key hi ≡ true) (λ row. (not (key_lt row.key start) && is_within start.table all row) ≡ is_listed start.table all start hi row) (λ row h. from_listed row h) rows before)

-- ---- a page

-- the start and the window are those of the page
pub record Opened (table : ℕ) (options : Options) (start : Key) (all : WindowView) : Type 0 where
  pub window_is : all ≡ window options
  pub start_at : start ≡ start_key table options
  pub run : IsRun all
  pub begins : IsStart start start.table all

pub opened : (table : ℕ) (options : Options) (start : Key) (all : WindowView) → all ≡ window options → start ≡ later_key (key_at table (unwrap_or options.start ([], []))) (key_at table (corner all)) → Opened table options start all
unfolding start_key
opened table options start all e f = record {
  window_is = e;
  start_at = f ∙ ap (λ (w : WindowView). later_key (key_at table (unwrap_or options.start ([], []))) (key_at table (corner w))) e;
  run = subst IsRun (sym e) (window_runs options.filter);
  begins = record { of_table = refl; low = low };
}
  where
    first : Key
    first = key_at table (unwrap_or options.start ([], []))

    low : is_lt (ordering_then (text_cmp start.pk (lower_corner all.partitions)) (text_cmp start.rk (lower_corner all.rows))) ≡ false
    low =
        subst (λ (key : Key). is_lt (ordering_then (text_cmp key.pk (lower_corner all.partitions)) (text_cmp key.rk (lower_corner all.rows))) ≡ false) (sym f)
        (sym (same_table_lt (later_key first (key_at table (corner all))) (key_at table (corner all)) (later-table first (key_at table (corner all)) table refl refl))
        ∙ later-not_below first (key_at table (corner all)))

start_table : (table : ℕ) (options : Options) → (start_key table options).table ≡ table
unfolding start_key
start_table table options = later-table (key_at table (unwrap_or options.start ([], []))) (key_at table (corner (window options))) table refl refl

-- what is gone through has just the rows that the page lists
pub all_listed : (rows cursor : List RowView) (table : ℕ) (options : Options) (span : Interval) (start : Key) (all : WindowView) → Opened table options start all → All (λ row. IsTrue (in_span span row.key)) rows → cursor ≡ rows_at rows start all → filter (is_within start.table all) cursor ≡ listed rows table options span.hi
unfolding listed
all_listed rows cursor table options span start all is inside e =
    ap (filter (is_within start.table all)) e
    ∙ (rows_listed start all is.run is.begins span.hi rows (All-weaker (λ row. IsTrue (in_span span row.key)) (λ row. is_before row.key span.hi ≡ true) (λ row h. (and_parts (not (is_before row.key span.lo)) (is_before row.key span.hi) h).1) rows inside)
    ∙ (ap (λ (w : WindowView). filter (is_listed start.table w start span.hi) rows) is.window_is
    ∙ (ap (λ (key : Key). filter (is_listed key.table (window options) key span.hi) rows) is.start_at
    ∙ ap (λ (t : ℕ). filter (is_listed t (window options) (start_key table options) span.hi) rows) (start_table table options))))

pub all_in_one_run : (rows cursor : List RowView) (table : ℕ) (options : Options) (start : Key) (all : WindowView) → Opened table options start all → AreRising rows → cursor ≡ rows_at rows start all → AreInOneRun start all cursor
all_in_one_run rows cursor table options start all is rising e = subst (AreInOneRun start all) (sym e) (rows_in_one_run start all is.run is.begins rows rising)

-- what the scan counts is what the page looks at
pub looked_at-is : (rows : List RowView) (table : ℕ) (options : Options) (hi : Bound) (found : List RowView) → found ≡ listed rows table options hi → prefix_length (matches options) options.top most_looked_at found ≡ looked_at rows table options hi
unfolding looked_at
looked_at-is rows table options hi found e = ap (prefix_length (matches options) options.top most_looked_at) e

next_by_first : (table : ℕ) (all : WindowView) (hi : Bound) (rows : List RowView) → next_of table all hi (option_to_list (slice_get rows 0)) ≡ next_of table all hi rows
next_by_first table all hi [] = refl
next_by_first table all hi (row ∷ rows) = refl

-- a page by its parts
pub page_is : (rows : List RowView) (table : ℕ) (options : Options) (hi edge end : Bound) (scanned found items : List RowView) (rest : Option RowView) (all : WindowView) (next : Option (List ℕ × List ℕ)) → scanned ≡ listed rows table options hi
    → items ≡ filter (matches options) (take (prefix_length (matches options) options.top most_looked_at scanned) scanned)
    → rest ≡ slice_get (drop (prefix_length (matches options) options.top most_looked_at scanned) scanned) 0
    → all ≡ window options → next ≡ next_of table all edge (option_to_list rest) → edge ≡ hi → end ≡ hi → found ≡ items
    → ◌≡◌ {A = Page} (record { rows = found; next = next; end = end }) (page_below rows table options hi)
unfolding page_below page_up_to looked_at
page_is rows table options hi edge end scanned found items rest all next e f g h k l m n =
    let count : List RowView → ℕ = λ xs. prefix_length (matches options) options.top most_looked_at xs in
    let kept : found ≡ filter (matches options) (take (count (listed rows table options hi)) (listed rows table options hi)) =
    n ∙ (f ∙ ap (λ (xs : List RowView). filter (matches options) (take (count xs) xs)) e) in
    let goes_on : next ≡ next_of table (window options) hi (drop (count (listed rows table options hi)) (listed rows table options hi)) =
    k
    ∙ (ap (λ (b : Bound). next_of table all b (option_to_list rest)) l
    ∙ (ap (λ (o : Option RowView). next_of table all hi (option_to_list o)) (g ∙ ap (λ (xs : List RowView). slice_get (drop (count xs) xs) 0) e)
    ∙ (ap (λ (w : WindowView). next_of table w hi (option_to_list (slice_get (drop (count (listed rows table options hi)) (listed rows table options hi)) 0))) h
    ∙ next_by_first table (window options) hi (drop (count (listed rows table options hi)) (listed rows table options hi))))) in
    λ i. record { rows = kept i; next = goes_on i; end = m i }

pub steps_are : (rows : List RowView) (table : ℕ) (options : Options) (hi : Bound) (scanned : List RowView) (before now : ℕ) → scanned ≡ listed rows table options hi → now ≤ before + prefix_length (matches options) options.top most_looked_at scanned + 2 → now ≤ before + looked_at rows table options hi + 2
steps_are rows table options hi scanned before now e h = subst (λ (n : ℕ). now ≤ before + n + 2) (looked_at-is rows table options hi scanned e) h
