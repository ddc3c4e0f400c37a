-- What the frames of a store told so far, as far as the next frame depends on it, and which frame fits behind them.
use Rattle.std.specs.Prelude.{ℕ, ◌+◌, ◌-◌, ◌^◌, List, [], ◌∷◌, ◌++◌, length, map, filter, find, Bool, true, false, not, ◌&&◌, ◌==◌, nat_lt, nat_le, Option, Some, None, if◌then◌else◌}
use Rattle.std.specs.Bool.{beq}
use Rattle.std.specs.List.{list_any, list_all, last_or}
use Rattle.std.specs.Ordering.{is_eq}
use Rattle.tab_keys.specs.Order.{key_lt, same_key, head_key, name_cmp}
use Rattle.tab_keys.specs.Spans.{Interval, has}
use Rattle.tab_keys.specs.declared.keys.Key.{Key}
use Rattle.tab_keys.specs.declared.bounds.Bound.{Bound}
use Rattle.tab_keys.specs.declared.bounds.Bound.TheVariants.{At, End}
use Rattle.tab_rows.specs.Rows.{RowView}
use Rattle.tab_rows.specs.declared.changes.Change.{Change}
use Rattle.tab_rows.specs.declared.changes.Change.TheVariants.{Put, Take}
use Rattle.tab_codec.specs.declared.frames.RangeRow.{RangeRow}
use Rattle.tab_journal.specs.declared.ranges.RangeTold.{RangeTold}
use Rattle.tab_codec.specs.declared.frames.Frame.{Frame}
use Rattle.tab_codec.specs.declared.frames.Frame.TheVariants as frames

-- ---- a server's frames: copies of ranges

-- the copy of a range's number that was begun last
abbrev pub begun : List RangeTold → ℕ → Option RangeTold
begun ranges range = find (λ one. one.range == range) ranges

-- the copies without the one of a number
abbrev pub forgotten : List RangeTold → ℕ → List RangeTold
forgotten ranges range = filter (λ one. not (one.range == range)) ranges

-- the copies with the one of a number made anew
unfoldable pub at_range : ℕ → (RangeTold → RangeTold) → List RangeTold → List RangeTold
at_range range f [] = []
at_range range f (one ∷ ranges) = if one.range == range then f one ∷ ranges else one ∷ at_range range f ranges

-- the key lies behind the last one, where there is a last one
abbrev pub is_behind : Option Key → Key → Bool
is_behind None key = true
is_behind (Some last) key = key_lt last key

abbrev pub changed_key : Change → Key
changed_key (Put row) = row.key
changed_key (Take key) = key

-- no key is changed twice
unfoldable pub keys_differ : List Change → Bool
keys_differ [] = true
keys_differ (change ∷ changes) = not (list_any (λ other. same_key (changed_key other) (changed_key change)) changes) && keys_differ changes

-- rows fit behind those of a copy that is not whole: in its span, and behind its last row
abbrev pub takes_rows : Option RangeTold → List RowView → Bool
takes_rows None rows = false
takes_rows (Some one) rows = not one.is_whole && list_all (λ row. has one.span row.key && is_behind one.last row.key) rows

-- changes fit a range that is whole: their keys differ and lie in its span
abbrev pub takes_changes : Option RangeTold → List Change → Bool
takes_changes None changes = false
takes_changes (Some one) changes =
    one.is_whole && list_all (λ change. has one.span (changed_key change)) changes && keys_differ changes

abbrev pub is_some_range : Option RangeTold → Bool
is_some_range None = false
is_some_range (Some one) = true

unfoldable pub server_takes : List RangeTold → Frame → Bool
server_takes ranges (frames.Begin range span next_tick) = true
server_takes ranges (frames.Rows range rows) = takes_rows (begun ranges range) rows
server_takes ranges (frames.Whole range next_tick) = is_some_range (begun ranges range)
server_takes ranges (frames.Change range next_tick changes) = takes_changes (begun ranges range) changes
server_takes ranges frame = false

unfoldable pub server_after : List RangeTold → Frame → List RangeTold
server_after ranges (frames.Begin range span next_tick) =
    forgotten ranges range ++ record { range = range; span = span; last = None; is_whole = false } ∷ []
server_after ranges (frames.Rows range rows) = at_range range (λ one. record one { last = last_or one.last (map (λ row. row.key) rows) }) ranges
server_after ranges (frames.Whole range next_tick) = at_range range (λ one. record one { is_whole = true }) ranges
server_after ranges frame = ranges

-- ---- the map's frames

-- the most rows of a map
abbrev pub most_rows : ℕ
most_rows = 256

-- the next number of a range, and the rows
pub record MapTold : Type 0 where
  pub next_range : ℕ
  pub rows : List RangeRow

-- a row has the number
abbrev pub has_number : List RangeRow → ℕ → Bool
has_number rows range = list_any (λ row. row.range == range) rows

abbrev pub is_listed : List ℕ → ℕ → Bool
is_listed numbers range = list_any (λ number. number == range) numbers

-- some row has the key
abbrev pub covers : List RangeRow → Key → Bool
covers rows key = list_any (λ row. has row.span key) rows

-- the first key behind the bound is one of the interval
abbrev pub begins_in : Interval → Bound → Bool
begins_in span (At table pk) = has span (head_key table pk)
begins_in span End = false

-- two maps both cover the first key behind a bound, or neither does
abbrev pub agree_at : List RangeRow → List RangeRow → Bound → Bool
agree_at rows others bound = beq (list_any (λ row. begins_in row.span bound) rows) (list_any (λ row. begins_in row.span bound) others)

abbrev pub agree_in : List RangeRow → List RangeRow → Interval → Bool
agree_in rows others span = agree_at rows others span.lo && agree_at rows others span.hi

-- Two lists of rows have the same keys together. Whether a key is covered changes at the rows' bounds alone, so it is
-- asked there.
unfoldable pub same_keys : List RangeRow → List RangeRow → Bool
same_keys rows others = list_all (λ row. agree_in rows others row.span) rows && list_all (λ row. agree_in rows others row.span) others

-- the rows of these numbers, and the others
abbrev pub rows_of : List ℕ → List RangeRow → List RangeRow
rows_of numbers rows = filter (λ row. is_listed numbers row.range) rows

abbrev pub rows_besides : List ℕ → List RangeRow → List RangeRow
rows_besides numbers rows = filter (λ row. not (is_listed numbers row.range)) rows

-- no number stands twice
unfoldable pub numbers_differ : List RangeRow → Bool
numbers_differ [] = true
numbers_differ (row ∷ rows) = not (has_number rows row.range) && numbers_differ rows

-- numbers of rows that differ and are below the next one
abbrev pub are_numbers : ℕ → List RangeRow → Bool
are_numbers next_range rows = list_all (λ row. nat_lt row.range next_range) rows && numbers_differ rows

-- new rows take the place of old ones of the map: each old number is that of a row, the keys are the same, the new
-- numbers are those of no row and below the next number, which does not fall, and a plan's number is left behind this one
abbrev pub takes_commit : MapTold → ℕ → ℕ → List ℕ → List RangeRow → Bool
takes_commit told plan next_range old_ranges new_rows =
    nat_lt plan (2 ^ 64 - 1)
    && nat_le told.next_range next_range
    && nat_le (length (rows_besides old_ranges told.rows) + length new_rows) most_rows
    && list_all (has_number told.rows) old_ranges
    && are_numbers next_range new_rows
    && list_all (λ row. not (has_number told.rows row.range)) new_rows
    && same_keys (rows_of old_ranges told.rows) new_rows

-- a Map comes first and but once, and Commits behind it
unfoldable pub map_takes : Option MapTold → Frame → Bool
map_takes None (frames.Map next_range next_plan rows) = nat_le (length rows) most_rows && are_numbers next_range rows
map_takes (Some told) (frames.Commit plan next_range old_ranges new_rows) = takes_commit told plan next_range old_ranges new_rows
map_takes told frame = false

unfoldable pub map_after : Option MapTold → Frame → Option MapTold
map_after None (frames.Map next_range next_plan rows) = Some (record { next_range = next_range; rows = rows })
map_after (Some told) (frames.Commit plan next_range old_ranges new_rows) =
    Some (record { next_range = next_range; rows = rows_besides old_ranges told.rows ++ new_rows })
map_after told frame = told

-- ---- the names' frames

-- the next number of a table, the numbers and names of the tables, and whether all frames so far were lists of names
pub record NamesTold : Type 0 where
  pub next_table : ℕ
  pub names : List (ℕ × List ℕ)
  pub is_listing : Bool

-- a table has the name, in whatever case
abbrev pub is_taken : List (ℕ × List ℕ) → List ℕ → Bool
is_taken names name = list_any (λ other. is_eq (name_cmp other.1 name)) names

-- each of these names is absent from those before it
unfoldable pub are_new : List (ℕ × List ℕ) → List (ℕ × List ℕ) → Bool
are_new before [] = true
are_new before (name ∷ names) = not (is_taken before name.1) && are_new (before ++ name ∷ []) names

-- the number of the last table, where there is one
abbrev pub last_number : List (ℕ × List ℕ) → Option ℕ
last_number names = last_or None (map (λ name. name.0) names)

-- the number is above the last one
abbrev pub is_above : Option ℕ → ℕ → Bool
is_above None table = true
is_above (Some last) table = nat_lt last table

-- names that may be listed behind others: they differ and are absent so far, and their tables' numbers are below the next
-- one and above those so far, which rise, so that the last one is the greatest
abbrev pub takes_names : ℕ → List (ℕ × List ℕ) → List (ℕ × List ℕ) → Bool
takes_names next_table before names =
    list_all (λ name. nat_lt name.0 next_table && is_above (last_number before) name.0) names && are_new before names

unfoldable pub names_takes : Option NamesTold → Frame → Bool
names_takes None (frames.Names next_table names) = takes_names next_table [] names
names_takes (Some told) (frames.Names next_table names) = told.is_listing && (next_table == told.next_table) && takes_names next_table told.names names
names_takes (Some told) (frames.Create table name) = (table == told.next_table) && nat_lt table (2 ^ 64 - 1) && not (is_taken told.names name)
names_takes (Some told) (frames.Drop table) = list_any (λ other. other.0 == table) told.names
names_takes told frame = false

unfoldable pub names_after : Option NamesTold → Frame → Option NamesTold
names_after None (frames.Names next_table names) = Some (record { next_table = next_table; names = names; is_listing = true })
names_after (Some told) (frames.Names next_table names) = Some (record told { names = told.names ++ names })
names_after (Some told) (frames.Create table name) = Some (record { next_table = table + 1; names = told.names ++ (table, name) ∷ []; is_listing = false })
names_after (Some told) (frames.Drop table) = Some (record told { names = filter (λ other. not (other.0 == table)) told.names; is_listing = false })
names_after told frame = told
