-- The page rule, over the rows of a world.
use Rattle.std.specs.Prelude.{ℕ, suc, ◌-◌, List, [], ◌∷◌, Bool, true, not, ◌&&◌, ◌||◌, ◌==◌, filter, take, drop, Option, Some, None, unwrap_or, if◌then◌else◌}
use Rattle.tab_keys.specs.Order.{key_lt, is_before, bound_lt}
use Rattle.tab_keys.specs.declared.keys.Key.{Key}
use Rattle.tab_keys.specs.declared.bounds.Bound.{Bound}
use Rattle.tab_keys.specs.declared.bounds.Bound.TheVariants.{At, End}
use Rattle.tab_rows.specs.Rows.{RowView}
use Rattle.tab_filter.specs.Trees.{Tree}
use Rattle.tab_filter.specs.Truth.{FilteredRow, truth}
use Rattle.tab_filter.specs.Windows.{WindowView, window_of, has, reaches, lower_corner}
use Rattle.tab_page.specs.declared.TheConstants.{MOST_LOOKED_AT}
use Rattle.tab_page.specs.declared.pages.Options.{Options}
use Rattle.tab_page.specs.declared.pages.Page.{Page}

-- ---- what a query asks for

-- what a filter sees of a row
abbrev pub seen : RowView → FilteredRow
seen row = record { pk = row.key.pk; rk = row.key.rk; tick = row.tick; properties = row.entity.properties }

-- a row passes a filter; all pass where there is none
abbrev pub passes : Option Tree → RowView → Bool
passes None row = true
passes (Some tree) row = truth (seen row) tree

-- the row is one that the query asks for
abbrev pub matches : Options → RowView → Bool
matches options row = passes options.filter row

-- the keys outside of which no row passes a filter
abbrev pub window_for : Option Tree → WindowView
window_for None = record { partitions = []; rows = [] }
window_for (Some tree) = window_of tree

-- the keys outside of which no row is one that the query asks for
abbrev pub window : Options → WindowView
window options = window_for options.filter

-- ---- where a page begins and ends

-- the key of a table at a partition key and a row key
abbrev pub key_at : ℕ → List ℕ × List ℕ → Key
key_at table pair = record { table = table; pk = pair.0; rk = pair.1 }

-- the one of two keys that stands last
abbrev pub later_key : Key → Key → Key
later_key a b = if key_lt a b then b else a

-- the window's lower corner
abbrev pub corner : WindowView → List ℕ × List ℕ
corner all = (lower_corner all.partitions, lower_corner all.rows)

-- the key at which the page begins to look: where the query begins, or the window's lower corner where that is later
unfoldable pub start_key : ℕ → Options → Key
start_key table options = later_key (key_at table (unwrap_or options.start ([], []))) (key_at table (corner (window options)))

-- the one of two bounds that stands first
abbrev pub lesser : Bound → Bound → Bound
lesser a b = if bound_lt b a then b else a

-- the least of the bounds above a key
abbrev pub end_above : Key → List Bound → Bound
end_above key [] = End
end_above key (bound ∷ bounds) = if is_before key bound then lesser bound (end_above key bounds) else end_above key bounds

-- the row is one of the table, from the start on, before the end, and in the window
abbrev pub is_listed : ℕ → WindowView → Key → Bound → RowView → Bool
is_listed table all start end row =
    row.key.table == table && not (key_lt row.key start) && is_before row.key end && has all row.key.pk row.key.rk

-- ---- the page

-- the rows that a page looks at, at the most
abbrev pub most_looked_at : ℕ
most_looked_at = MOST_LOOKED_AT

-- the length of the shortest front with that many matches or that many rows, or of the whole list
abbrev pub prefix_length : {A : Type 0} → (A → Bool) → ℕ → ℕ → List A → ℕ
prefix_length test top most [] = 0
prefix_length test top most (x ∷ xs) =
    if top == 0 || most == 0 then 0 else suc (prefix_length test (top - (if test x then 1 else 0)) (most - 1) xs)

-- where the next page begins: at the first row left, or at the bound that ended the page inside its table and window
abbrev pub next_of : ℕ → WindowView → Bound → List RowView → Option (List ℕ × List ℕ)
next_of table all end (row ∷ rows) = Some (row.key.pk, row.key.rk)
next_of table all (At other pk) [] = if other == table && reaches all pk then Some (pk, []) else None
next_of table all End [] = None

-- the rows that the page may look at
unfoldable pub listed : List RowView → ℕ → Options → Bound → List RowView
listed rows table options end = filter (is_listed table (window options) (start_key table options) end) rows

-- how many of these it looks at
unfoldable pub looked_at : List RowView → ℕ → Options → Bound → ℕ
looked_at rows table options end = prefix_length (matches options) options.top most_looked_at (listed rows table options end)

-- the page that ends after n of the listed rows
unfoldable pub page_up_to : ℕ → Options → Bound → ℕ → List RowView → Page
page_up_to table options end n rows =
    record { rows = filter (matches options) (take n rows); next = next_of table (window options) end (drop n rows); end = end }

-- the page below an end
unfoldable pub page_below : List RowView → ℕ → Options → Bound → Page
page_below rows table options end =
    page_up_to table options end (looked_at rows table options end) (listed rows table options end)

-- the page that a query gets from the rows of a world whose ranges begin at these bounds
unfoldable pub page_of : List RowView → List Bound → ℕ → Options → Page
page_of rows bounds table options = page_below rows table options (end_above (start_key table options) bounds)
