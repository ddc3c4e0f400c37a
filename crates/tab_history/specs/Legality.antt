-- Which histories are those of one ordered map.
use Rattle.std.specs.Prelude.{◌≡◌, ℕ, List, [], ◌∷◌, ◌+◌, ◌==◌, true, find, take, slice_get, All, AllPairs, IsTrue, IfSome, Option, Some, None, is_some, option_and_then, Ok, Err, ⊤}
use Rattle.std.specs.Result.{result_unwrap_or}
use Rattle.tab_keys.specs.Order.{bound_lt}
use Rattle.tab_keys.specs.declared.bounds.Bound.{Bound}
use Rattle.tab_keys.specs.declared.bounds.Bound.TheVariants.{At, End}
use Rattle.tab_rows.specs.Rows.{RowView, row_at}
use Rattle.tab_history.specs.World.{World, table_of, with_name, without_name, names_from, raised, MayHaveTick}
use Rattle.tab_ops.specs.Changes.{group_outcome, group_keys}
use Rattle.tab_page.specs.Pages.{page_of, start_key}
use Rattle.tab_history.specs.Doubts.{SparesKeys, SparesPage, SparesNames, Clears, Accepts, doubt_of, without_doubt, EachDoubt, AreOpen}
use Rattle.tab_history.specs.declared.entries.Entry.{Entry}
use Rattle.tab_history.specs.declared.entries.Entry.TheVariants as entry
use Rattle.tab_history.specs.declared.entries.Denied.{Denied}
use Rattle.tab_history.specs.declared.entries.Denied.TheVariants as denied
use Rattle.tab_history.specs.declared.entries.Doubt.{Doubt}
use Rattle.tab_history.specs.declared.entries.Doubt.TheVariants as doubt
use Rattle.tab_history.specs.declared.plans.MapRefused.{MapRefused}
use Rattle.tab_history.specs.declared.plans.MapRefused.TheVariants as refused

-- what a history has come to: the world, the bounds in force, the table that each request's last look-up gave, the
-- last one first, the operations of which it is open whether they stand, each under the request that it belongs to, and
-- the plan of which it is open whether its commit stands
pub record State : Type 0 where
  pub world : World
  pub bounds : List Bound
  pub tables : List (ℕ × Option ℕ)
  pub doubts : List (ℕ × Doubt)
  pub commit : Option ℕ

-- the table that the last look-up of a request gave
unfoldable pub table_for : List (ℕ × Option ℕ) → ℕ → Option ℕ
table_for tables ask = option_and_then (λ last. last.1) (find (λ last. last.0 == ask) tables)

-- the operation that an entry says was accepted, where these are open before it
abbrev pub accepted : List (ℕ × Doubt) → Entry → Option Doubt
accepted doubts (entry.Change ask now table group (Ok tick)) = Some (doubt.Change table group tick)
accepted doubts (entry.Create ask name (Some table)) = Some (doubt.Create name table)
accepted doubts (entry.Drop ask name true) = Some (doubt.Drop name)
accepted doubts (entry.Settled ask true) = doubt_of doubts ask
accepted doubts _ = None

-- the world after an operation
abbrev pub acted : World → Doubt → World
acted world (doubt.Change table group tick) =
    record world { rows = result_unwrap_or (group_outcome world.rows table tick group) world.rows; floors = raised world.floors (group_keys table group) tick }
acted world (doubt.Create name table) = record world { names = with_name world.names (record { spelling = name; table = table }); next_table = table + 1 }
acted world (doubt.Drop name) = record world { names = without_name world.names name }

-- the world after an entry
abbrev pub world_after : World → Option Doubt → World
world_after world None = world
world_after world (Some operation) = acted world operation

abbrev pub bounds_after : List Bound → Entry → List Bound
bounds_after bounds (entry.Bounds later) = later
bounds_after bounds _ = bounds

abbrev pub tables_after : List (ℕ × Option ℕ) → Entry → List (ℕ × Option ℕ)
tables_after tables (entry.Resolve ask name table) = (ask, table) ∷ tables
tables_after tables _ = tables

-- a doubt opens at its own entry, and ends at the one that settles it
abbrev pub doubts_after : List (ℕ × Doubt) → Entry → List (ℕ × Doubt)
doubts_after doubts (entry.Maybe ask now what) = (ask, what) ∷ doubts
doubts_after doubts (entry.Settled ask stood) = without_doubt doubts ask
doubts_after doubts _ = doubts

-- a commit is in doubt from the refusal that names its plan to the next one that names one, to a turn, or to the bounds of an
-- opening
abbrev pub commit_after : Option ℕ → Entry → Option ℕ
commit_after commit (entry.Refused why (Some plan)) = Some plan
commit_after commit (entry.Turn plan turn) = None
commit_after commit (entry.Bounds bounds) = None
commit_after commit _ = commit

-- what a history has come to after one more entry
abbrev pub after : State → Entry → State
after state entry = record {
  world = world_after state.world (accepted state.doubts entry);
  bounds = bounds_after state.bounds entry;
  tables = tables_after state.tables entry;
  doubts = doubts_after state.doubts entry;
  commit = commit_after state.commit entry;
}

abbrev pub after_all : State → List Entry → State
after_all state [] = state
after_all state (entry ∷ entries) = after_all (after state entry) entries

-- the bounds cut the whole space of keys: the first stands before all keys, they rise, and none stands past all keys
abbrev pub AreBounds : List Bound → Type 0
AreBounds [] = ⊥
AreBounds (bound ∷ bounds) =
    (bound ≡ At 0 []) × AllPairs (λ a b. IsTrue (bound_lt a b)) (bound ∷ bounds) × All (λ b. IsTrue (bound_lt b End)) (bound ∷ bounds)

-- the reasons for which a request may be denied whatever the world is
abbrev pub IsDenial : Denied → Type 0
IsDenial (denied.Busy plan) = ⊤
IsDenial denied.TimeSpent = ⊤
IsDenial denied.IdsSpent = ⊤
IsDenial (denied.DiskFault disk) = ⊤
IsDenial denied.Memory = ⊤
IsDenial (denied.Damaged disk at) = ⊤
IsDenial _ = ⊥

-- the reasons for which a step of a plan may be refused and the history tells of it
abbrev pub IsMapDenial : MapRefused → Type 0
IsMapDenial (refused.DiskFault disk) = ⊤
IsMapDenial refused.Memory = ⊤
IsMapDenial refused.EpochSpent = ⊤
IsMapDenial (refused.Damaged disk at) = ⊤
IsMapDenial _ = ⊥

-- a disk's call failed
abbrev pub IsMapFault : MapRefused → Type 0
IsMapFault (refused.DiskFault disk) = ⊤
IsMapFault _ = ⊥

-- a change comes into doubt under its request's table, with a tick that it may have at that moment
abbrev pub IsAsked : State → ℕ → ℕ → Doubt → Type 0
IsAsked state ask now (doubt.Change table group tick) = (table_for state.tables ask ≡ Some table) × MayHaveTick state.world.floors (group_keys table group) now tick
IsAsked state ask now (doubt.Create name table) = ⊤
IsAsked state ask now (doubt.Drop name) = ⊤

-- an entry that a history may go on with
abbrev pub Allows : State → Entry → Type 0
Allows state (entry.Bounds bounds) = AreBounds bounds
Allows state (entry.Resolve ask name table) = (table ≡ table_of state.world.names name) × EachDoubt SparesNames state.doubts
Allows state (entry.Get ask table pk rk found) =
    (table_for state.tables ask ≡ Some table) × (found ≡ row_at state.world.rows (record { table = table; pk = pk; rk = rk }))
    × EachDoubt (SparesKeys (record { table = table; pk = pk; rk = rk } ∷ [])) state.doubts
Allows state (entry.Page ask table options page) =
    (table_for state.tables ask ≡ Some table) × (page ≡ page_of state.world.rows state.bounds table options)
    × EachDoubt (SparesPage (start_key table options) page.end) state.doubts
Allows state (entry.Change ask now table group (Ok tick)) =
    (table_for state.tables ask ≡ Some table)
    × ((rows : List RowView) × (group_outcome state.world.rows table tick group ≡ Ok rows))
    × MayHaveTick state.world.floors (group_keys table group) now tick
    × EachDoubt (SparesKeys (group_keys table group)) state.doubts
Allows state (entry.Change ask now table group (Err refusal)) =
    (table_for state.tables ask ≡ Some table) × (group_outcome state.world.rows table 0 group ≡ Err refusal)
    × EachDoubt (SparesKeys (group_keys table group)) state.doubts
Allows state (entry.Create ask name (Some table)) =
    (table_of state.world.names name ≡ None) × (table ≡ state.world.next_table) × EachDoubt SparesNames state.doubts
Allows state (entry.Create ask name None) = (is_some (table_of state.world.names name) ≡ true) × EachDoubt SparesNames state.doubts
Allows state (entry.Drop ask name stood) = (stood ≡ is_some (table_of state.world.names name)) × EachDoubt SparesNames state.doubts
Allows state (entry.List ask from top names next) =
    (names ≡ take top (names_from state.world.names from)) × (next ≡ slice_get (names_from state.world.names from) top)
    × EachDoubt SparesNames state.doubts
Allows state (entry.Denied ask why) = IsDenial why
Allows state (entry.Turn plan turn) = ⊤
Allows state (entry.Refused why doubt) = IsMapDenial why × IfSome doubt (λ plan. IsMapFault why)
Allows state (entry.Maybe ask now what) = Accepts state.world what × IsAsked state ask now what × EachDoubt (λ it. Clears it what) state.doubts
Allows state (entry.Settled ask stood) = is_some (doubt_of state.doubts ask) ≡ true
Allows state entry.Stopped = ⊤

-- each entry is one that the history before it may go on with
abbrev pub EachAllowed : State → List Entry → Type 0
EachAllowed state [] = ⊤
EachAllowed state (entry ∷ entries) = Allows state entry × EachAllowed (after state entry) entries

-- a history goes on, an entry after another, from open doubts of which each may stand or not; an opening has none
pub record Legal (state : State) (entries : List Entry) : Type 0 where
  pub doubts : AreOpen state.world state.doubts
  pub steps : EachAllowed state entries
