-- What a service holds in memory for a course: the map, the names, and each server, with their stores.
use Rattle.std.specs.Prelude.{◌≡◌, ◌≢◌, ◌≤◌, ℕ, suc, List, ◌∷◌, length, map, set, slice_get, All, Any, IfSome, IsSomeAnd, Some, None}
use Rattle.tab_seats.specs.declared.views.Stroke.{Stroke}
use Rattle.tab_outside.specs.Disks.{Watch}
use Rattle.tab_journal.specs.Stores.{area_a, area_b}
use Rattle.tab_journal.specs.Keeping.{IsSound}
use Rattle.tab_history.specs.Configurations.{Configuration, MapRow, ticked, next_tick_of}
use Rattle.tab_history.specs.Ranges.{routed}
use Rattle.tab_history.specs.Legality.{State, acted}
use Rattle.tab_history.specs.World.{World}
use Rattle.tab_history.specs.declared.entries.Doubt.{Doubt}
use Rattle.tab_history.specs.declared.entries.Doubt.TheVariants as doubt
use Rattle.tab_ops.specs.Changes.{applied, group_outcome, group_keys}
use Rattle.tab_ops.specs.Groups.{ItemView}
use Rattle.tab_rows.specs.Spans.{rows_in}
use Rattle.std.specs.Result.{result_unwrap_or}
use Rattle.tab_server.specs.Replays.{SpelledRange}
use Rattle.tab_range.specs.declared.commands.Told.{Told}
use Rattle.tab_server.specs.declared.ranges.Marked.{Marked}
use Rattle.tab_server.specs.declared.steps.RangeChange.{RangeChange}
use Rattle.tab_server.specs.Contents.{told_of, told_with, told_ranges, ranges_sense}
use Rattle.tab_server.specs.Serving.{ServerView, range_of}
use Rattle.tab_master.specs.Spelled.{SpelledMap, SpelledNames}
use Rattle.tab_master.specs.Names.{names_sense, names_stepped}
use Rattle.tab_master.specs.NamesCalls.{NamesKept}
use Rattle.tab_master.specs.Maps.{map_sense, map_stepped}
use Rattle.tab_master.specs.RangeMaps.{MapKept}
use Rattle.tab_history.specs.Doubts.{EachDoubt}
use Rattle.tab_master.specs.declared.steps.NamesStep.{NamesStep}
use Rattle.tab_core.specs.Courses.{Course, IsCourse, IsOfGroup, committed_by, store_of}
use Rattle.tab_core.specs.Points.{held_in}

-- what contracts see of a service: the map, the names, and the servers by their numbers
pub record CoreView (D T : Type 0) : Type 0 where
  pub map : MapKept D
  pub names : NamesKept D
  pub servers : List (ServerView D T)

-- the two disks of each store, as a yard has them
abbrev pub stores_in : {D T : Type 0} → CoreView D T → List (D × D)
stores_in core =
    (area_a core.map.store, area_b core.map.store) ∷ (area_a core.names.store, area_b core.names.store)
    ∷ map (λ server. (area_a server.store, area_b server.store)) core.servers

-- ---- what is held for a course

-- the map of a configuration, and the names of a world, as their stores tell of them
abbrev pub told_map : Configuration → SpelledMap
told_map config = record { next_range = config.kept_range; next_plan = config.kept_plan; rows = config.rows }

abbrev pub told_names : World → SpelledNames
told_names world = record { next_table = world.next_table; names = world.names }

-- the map's rows and kept numbers; a step in doubt is the commit in doubt
pub record KeepsMap {D : Type 0} (course : Course) (held : MapKept D) : Type 0 where
  pub number : held.store.number ≡ 0
  pub told : held.held.told ≡ told_map course.config
  pub in_doubt : IfSome held.doubt (λ step. IsSomeAnd course.past.commit (λ plan. map_stepped held.held.told step ≡ told_map (committed_by course.config plan)))

-- none of the operations in doubt is about this store
abbrev pub IsSettledAt : State → Configuration → ℕ → Type 0
IsSettledAt past config store = EachDoubt (λ operation. store_of config operation ≢ store) past.doubts

-- a step makes of the names what an operation does that is about them
pub record NamesBy (world : World) (step : NamesStep) (operation : Doubt) : Type 0 where
  pub about : (config : Configuration) → store_of config operation ≡ 1
  pub makes : names_stepped (told_names world) step ≡ told_names (acted world operation)

-- the names and the next number; a step in doubt is the operation in doubt that is about them
pub record KeepsNames {D : Type 0} (course : Course) (held : NamesKept D) : Type 0 where
  pub number : held.store.number ≡ 0
  pub told : held.held.told ≡ told_names course.past.world
  pub in_doubt : IfSome held.doubt (λ step. Any (λ it. NamesBy course.past.world step it.1) course.past.doubts)
  pub settled : held.doubt ≡ None → IsSettledAt course.past course.config 1

-- the range of a row is held, with the world's rows in its span and its next tick
abbrev pub HoldsRow : {T : Type 0} → State → Configuration → List (Marked T) → MapRow → Type 0
HoldsRow past config held row = IsSomeAnd (range_of held row.range) (λ marked. told_of marked ≡ held_in past.world config row)

-- a change of a server makes of each of its ranges what an operation does that is about the server
pub record ChangesBy (past : State) (config : Configuration) (number : ℕ) (step : RangeChange) (operation : Doubt) : Type 0 where
  pub about : store_of config operation ≡ suc (suc number)
  pub makes : All (λ row. row.server ≡ number → told_with (Some step) (held_in past.world config row) ≡ held_in (acted past.world operation) (ticked config (Some operation)) row) config.rows

-- each range that a configuration gives to the server is held; a change in doubt is the operation in doubt that is about the server
pub record HoldsRanges {D T : Type 0} (past : State) (config : Configuration) (number : ℕ) (server : ServerView D T) : Type 0 where
  pub held : All (λ row. row.server ≡ number → HoldsRow past config server.held row) config.rows
  pub in_doubt : IfSome server.doubt (λ step. Any (λ it. ChangesBy past config number step it.1) past.doubts)

-- and so those that the commit in doubt would give
pub record KeepsServer {D T : Type 0} (course : Course) (number : ℕ) (server : ServerView D T) : Type 0 where
  pub number_is : server.store.number ≡ number
  pub ranges : HoldsRanges course.past course.config number server
  pub committed : IfSome course.past.commit (λ plan. HoldsRanges course.past (committed_by course.config plan) number server)
  pub settled : server.doubt ≡ None → IsSettledAt course.past course.config (suc (suc number))

-- A service in memory holds a course: each operation that is in doubt in one of its stores is in doubt in the course.
pub record KeepsCourse {D T : Type 0} (course : Course) (core : CoreView D T) : Type 0 where
  pub is : IsCourse (length core.servers) course
  pub map : KeepsMap course core.map
  pub names : KeepsNames course core.names
  pub servers : (number : ℕ) (server : ServerView D T) → slice_get core.servers number ≡ Some server → KeepsServer course number server

-- what the disks of each store say of what is held is sound
pub record AreSound {D T : Type 0} (is_drawn : T → Stroke Told → T → Type 0) (is_ready : T → ℕ → Type 0) (are_kin : T → T → Type 0) (w : Watch D) (core : CoreView D T) : Type 0 where
  pub map : IsSound w map_sense core.map
  pub names : IsSound w names_sense core.names
  pub servers : All (λ server. IsSound w (ranges_sense is_drawn is_ready are_kin) server) core.servers

-- ---- a step of one store

-- the service with another server of this number
abbrev pub with_server : {D T : Type 0} → CoreView D T → ℕ → ServerView D T → CoreView D T
with_server core number server = record core { servers = set core.servers number server }

-- a server with nothing in doubt, of which frames tell these ranges
pub record IsSettledServer {D T : Type 0} (number : ℕ) (told : List SpelledRange) (server : ServerView D T) : Type 0 where
  pub number_is : server.store.number ≡ number
  pub told_is : told_ranges server.held ≡ told
  pub clear : server.doubt ≡ None

-- a change of a server is that of an operation: it is of the range of the row that the operation is routed to, has its tick, and leaves of the row's rows
-- what its group leaves
pub record IsChangeBy (course : Course) (number : ℕ) (step : RangeChange) (operation : Doubt) : Type 0 where
  pub table : ℕ
  pub group : List ItemView
  pub is : operation ≡ doubt.Change table group step.changes.tick
  pub of_group : IsOfGroup operation
  pub row : MapRow
  pub routed_to : routed course.config.rows (group_keys table group) ≡ Some row
  pub server : row.server ≡ number
  pub range : step.range ≡ row.range
  pub next : next_tick_of course.config.next_ticks row.range ≤ step.changes.tick
  pub leaves : applied (rows_in row.span course.past.world.rows) step.changes.list
      ≡ result_unwrap_or (group_outcome (rows_in row.span course.past.world.rows) table step.changes.tick group) (rows_in row.span course.past.world.rows)
