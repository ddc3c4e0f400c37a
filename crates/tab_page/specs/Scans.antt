-- How the rows of a page are gone through.
use Rattle.std.specs.Prelude.{◌≡◌, ℕ, List, Bool, true, false, ◌&&◌, ◌==◌, AllPairs, filter, take, drop, if◌then◌else◌}
use Rattle.tab_keys.specs.Order.{key_lt}
use Rattle.tab_keys.specs.declared.keys.Key.{Key}
use Rattle.tab_rows.specs.Rows.{RowView, rows_from, rows_past}
use Rattle.tab_filter.specs.Windows.{WindowView, has, below}
use Rattle.tab_page.specs.declared.pages.Options.{Options}
use Rattle.tab_page.specs.Pages.{matches, prefix_length, most_looked_at}

-- the row is one of the table in the window
abbrev pub is_within : ℕ → WindowView → RowView → Bool
is_within table all row = row.key.table == table && has all row.key.pk row.key.rk

-- the rows that are gone through: from the start on, or behind its partition, where that is too small
unfoldable pub rows_at : List RowView → Key → WindowView → List RowView
rows_at rows start all = if below all start.pk then rows_past rows start.table start.pk else rows_from rows start

-- those of them that the page lists
abbrev pub rows_within : Key → WindowView → List RowView → List RowView
rows_within start all rows = filter (is_within start.table all) rows

-- how many of these it looks at
abbrev pub count_of : Options → List RowView → ℕ
count_of options rows = prefix_length (matches options) options.top most_looked_at rows

-- the matches among those, and the rows behind them
abbrev pub matches_of : Options → List RowView → List RowView
matches_of options rows = filter (matches options) (take (count_of options rows) rows)

abbrev pub rest_of : Options → List RowView → List RowView
rest_of options rows = drop (count_of options rows) rows

-- of two rows the later lies above the start, and the earlier, if it does too and is left out, leaves out the later
abbrev pub InOneRun : Key → WindowView → RowView → RowView → Type 0
InOneRun start all a b =
    (key_lt start b.key ≡ true) × (key_lt start a.key ≡ true → is_within start.table all a ≡ false → is_within start.table all b ≡ false)

-- so of such rows the first at the most is left out before those in the window, and the first that is left out behind one
-- of these ends them
abbrev pub AreInOneRun : Key → WindowView → List RowView → Type 0
AreInOneRun start all rows = AllPairs (InOneRun start all) rows
