-- A page by the bounds of all ranges is the page of the range that has its start, from the rows of that range alone.
use Rattle.std.proofs.Common.{◌≡◌, ℕ, List, Bool, true, false, not, ◌&&◌, ◌==◌, refl, sym, ap, ◌∙◌}
use Rattle.std.specs.Prelude.{IsTrue}
use Rattle.std.proofs.lemmas.Bool.{true≢false, and_parts}
use Rattle.tab_keys.specs.Order.{key_lt, is_before}
use Rattle.tab_keys.specs.Spans.{Interval, has as in_span}
use Rattle.tab_keys.specs.declared.keys.Key.{Key}
use Rattle.tab_keys.specs.declared.bounds.Bound.{Bound}
use Rattle.tab_keys.proofs.OrderLaws.{is_before_from_le}
use Rattle.tab_rows.specs.Rows.{RowView}
use Rattle.tab_rows.specs.Spans.{rows_in}
use Rattle.tab_rows.proofs.Lists.{filter-filter}
use Rattle.tab_filter.specs.Windows.{WindowView, has}
use Rattle.tab_page.specs.declared.pages.Options.{Options}
use Rattle.tab_page.specs.Pages.{start_key, window, matches, most_looked_at, prefix_length, is_listed, listed, looked_at, page_up_to, page_below, page_of, end_above}

not_true : (b : Bool) → not b ≡ true → b ≡ false
not_true true h = absurd (true≢false (sym h))
not_true false h = refl

-- a key from one of a span's keys on and before its end is one of its keys
from_inside : (span : Interval) (start key : Key) → IsTrue (in_span span start) → key_lt key start ≡ false → is_before key span.hi ≡ true → in_span span key ≡ true
from_inside span start key inside from before = rw (not_low, before) refl
  where
    not_low : is_before key span.lo ≡ false
    not_low = by_test (is_before key span.lo) refl
      where
        by_test : (t : Bool) → is_before key span.lo ≡ t → is_before key span.lo ≡ false
        by_test true e = absurd (true≢false (sym (is_before_from_le start key span.lo from e) ∙ not_true (is_before start span.lo) (and_parts (not (is_before start span.lo)) (is_before start span.hi) inside).0))
        by_test false e = e

listed_inside : (span : Interval) (table : ℕ) (all : WindowView) (start : Key) → IsTrue (in_span span start) → (row : RowView) → is_listed table all start span.hi row ≡ true → in_span span row.key ≡ true
listed_inside span table all start inside row h =
    let parts = between (row.key.table == table) (not (key_lt row.key start)) (is_before row.key span.hi) (has all row.key.pk row.key.rk) h in
    from_inside span start row.key inside (not_true (key_lt row.key start) parts.0) parts.1
  where
    between : (a b c d : Bool) → (a && b && c && d) ≡ true → (b ≡ true) × (c ≡ true)
    between true true true d h = (refl, refl)
    between true true false d h = absurd (true≢false (sym h))
    between true false c d h = absurd (true≢false (sym h))
    between false b c d h = absurd (true≢false (sym h))

-- the rows that a page lists up to the span's end
pub listed-in : (span : Interval) (rows : List RowView) (table : ℕ) (options : Options) → IsTrue (in_span span (start_key table options)) → listed (rows_in span rows) table options span.hi ≡ listed rows table options span.hi
unfolding listed
listed-in span rows table options inside =
    filter-filter (is_listed table (window options) (start_key table options) span.hi) (λ row. in_span span row.key) (listed_inside span table (window options) (start_key table options) inside) rows

-- and how many of them it looks at
pub looked_at-in : (span : Interval) (rows : List RowView) (table : ℕ) (options : Options) → IsTrue (in_span span (start_key table options)) → looked_at (rows_in span rows) table options span.hi ≡ looked_at rows table options span.hi
unfolding looked_at
looked_at-in span rows table options inside = ap (λ (found : List RowView). prefix_length (matches options) options.top most_looked_at found) (listed-in span rows table options inside)

pub page_below-in : (span : Interval) (rows : List RowView) (table : ℕ) (options : Options) → IsTrue (in_span span (start_key table options)) → page_below (rows_in span rows) table options span.hi ≡ page_below rows table options span.hi
unfolding page_below looked_at
page_below-in span rows table options inside =
    ap (λ (found : List RowView). page_up_to table options span.hi (prefix_length (matches options) options.top most_looked_at found) found) (listed-in span rows table options inside)

-- a page by the bounds is a page of the span
pub page_of-in : (span : Interval) (rows : List RowView) (bounds : List Bound) (table : ℕ) (options : Options) → IsTrue (in_span span (start_key table options)) → end_above (start_key table options) bounds ≡ span.hi
    → page_of rows bounds table options ≡ page_below (rows_in span rows) table options span.hi
unfolding page_of
page_of-in span rows bounds table options inside end = ap (page_below rows table options) end ∙ sym (page_below-in span rows table options inside)
