-- What the frames of the names and those of the map stand for.
use Rattle.std.specs.Prelude.{ℕ, ◌+◌, ◌<◌, ◌==◌, max, List, [], ◌∷◌, not, filter, map, All, AllPairs, IsTrue, IsFalse, Option, None, Some}
use Rattle.std.specs.declared.cmp.Ordering.{Ordering}
use Rattle.std.specs.Ordering.{is_lt, nat_cmp}
use Rattle.tab_keys.specs.Order.{name_cmp, bound_cmp}
use Rattle.tab_codec.specs.declared.frames.RangeRow.{RangeRow}
use Rattle.tab_codec.specs.declared.frames.Frame.{Frame}
use Rattle.tab_codec.specs.declared.frames.Frame.TheVariants as frames
use Rattle.tab_journal.specs.Told.{NamesTold, MapTold}
use Rattle.tab_journal.specs.Fitting.{told_by}
use Rattle.tab_journal.specs.declared.fitting.Told.{Told}
use Rattle.tab_journal.specs.declared.fitting.Told.TheVariants as told
use Rattle.tab_history.specs.World.{Named}
use Rattle.tab_history.specs.Configurations.{MapRow}
use Rattle.tab_master.specs.Ordered.{in_order}

-- ---- the names

-- the kind of the names' store, and of the map's
abbrev pub names_kind : ℕ
names_kind = 1

abbrev pub map_kind : ℕ
map_kind = 0

-- what the names' frames stand for: the number of the next table, and the tables in the order of their names without case
pub record SpelledNames : Type 0 where
  pub next_table : ℕ
  pub names : List Named

-- the table of a pair in a frame
abbrev pub named : ℕ × List ℕ → Named
named entry = record { spelling = entry.1; table = entry.0 }

-- tables by their names without case, and by their numbers
abbrev pub by_name : Named → Named → Ordering
by_name a b = name_cmp a.spelling b.spelling

abbrev pub by_number : Named → Named → Ordering
by_number a b = nat_cmp a.table b.table

abbrev pub names_told : NamesTold → SpelledNames
names_told held = record { next_table = held.next_table; names = in_order by_name (map named held.names) }

abbrev pub names_of : Told → Option SpelledNames
names_of (told.Names (Some held)) = Some (names_told held)
names_of _ = None

-- what the frames tell of the names; nothing before their first frame
unfoldable pub spelled_names : List Frame → Option SpelledNames
spelled_names frames = names_of (told_by names_kind frames)

-- the tables without the one of a number
abbrev pub without_table : List Named → ℕ → List Named
without_table names table = filter (λ one. not (one.table == table)) names

-- what names keep: no two are one without their case and they stand in order, and the numbers differ and are below the next
pub record AreNames (spelled : SpelledNames) : Type 0 where
  pub rise : AllPairs (λ a b. IsTrue (is_lt (by_name a b))) spelled.names
  pub differ : AllPairs (λ a b. IsFalse (a.table == b.table)) spelled.names
  pub below : All (λ one. one.table < spelled.next_table) spelled.names

-- ---- the map

-- what the map's frames stand for: the numbers of the next range and of the next plan, and the rows in the order of their keys
pub record SpelledMap : Type 0 where
  pub next_range : ℕ
  pub next_plan : ℕ
  pub rows : List MapRow

abbrev pub map_row : RangeRow → MapRow
map_row row = record { range = row.range; server = row.server; span = row.span }

-- rows by the bounds at which they begin
abbrev pub by_start : MapRow → MapRow → Ordering
by_start a b = bound_cmp a.span.lo b.span.lo

-- the next plan's number: the first frame's, and one above the greatest plan that was committed
abbrev pub next_plan_after : ℕ → Frame → ℕ
next_plan_after next (frames.Map next_range next_plan rows) = next_plan
next_plan_after next (frames.Commit plan next_range old_ranges new_rows) = max next (plan + 1)
next_plan_after next _ = next

unfoldable pub next_plan_by : ℕ → List Frame → ℕ
next_plan_by next [] = next
next_plan_by next (frame ∷ frames) = next_plan_by (next_plan_after next frame) frames

abbrev pub map_told : ℕ → MapTold → SpelledMap
map_told next_plan held = record { next_range = held.next_range; next_plan = next_plan; rows = in_order by_start (map map_row held.rows) }

abbrev pub map_of : ℕ → Told → Option SpelledMap
map_of next_plan (told.Map (Some held)) = Some (map_told next_plan held)
map_of next_plan _ = None

-- what the frames tell of the map; nothing before its first frame
unfoldable pub spelled_map : List Frame → Option SpelledMap
spelled_map frames = map_of (next_plan_by 0 frames) (told_by map_kind frames)
