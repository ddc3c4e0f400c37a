-- Where a store stands: what its history has come to, how its keys are spread over servers, and which requests are pending.
use Rattle.std.specs.Prelude.{◌≢◌, ℕ, suc, ◌<◌, ◌≤◌, List, [], ◌∷◌, false, All, AllPairs, Option, Some, None, ◌≡◌, ⊤}
use Rattle.tab_keys.specs.Spans.{Interval}
use Rattle.tab_keys.specs.declared.bounds.Bound.TheVariants.{At, End}
use Rattle.tab_history.specs.World.{World, IsWorld}
use Rattle.tab_history.specs.Legality.{State}
use Rattle.tab_history.specs.Doubts.{EachDoubt, AreOpen}
use Rattle.tab_history.specs.Kept.{HasTablesBelow}
use Rattle.tab_history.specs.Configurations.{MapRow, Configuration, plan_numbered, state_of, next_tick_at, committed}
use Rattle.tab_history.specs.Tilings.{TileKeys}
use Rattle.tab_history.specs.Ranges.{HaveOwnRanges, TicksServe, routed}
use Rattle.tab_ops.specs.Groups.{IsGroup}
use Rattle.tab_ops.specs.Changes.{group_keys}
use Rattle.tab_history.specs.declared.entries.Doubt.{Doubt}
use Rattle.tab_history.specs.declared.entries.Doubt.TheVariants as doubt
use Rattle.tab_history.specs.declared.plans.PlanState.TheVariants as plan_state
use Rattle.tab_history.specs.declared.asks.Ask.{Ask}

-- a request that was asked and has not acted: its number, what it asks, and the plans that were committed since, each with the
-- keys of its old ranges, the last one first
pub record Pending : Type 0 where
  pub ask : ℕ
  pub what : Ask
  pub commits : List (ℕ × List Interval)

-- the open doubts, and the commit of which it is open whether it stands, are part of what the history has come to
pub record Course : Type 0 where
  pub past : State
  pub config : Configuration
  pub pending : List Pending

-- the configuration with the commit of a plan
abbrev pub committed_by : Configuration → ℕ → Configuration
committed_by config plan = committed config (plan_numbered config.plans plan)

-- ---- a store that was just made

-- the world of a store that was just made, without tables
abbrev pub first_world : World
first_world = record {
  names = [];
  next_table = 1;
  rows = [];
  floors = record { opening = []; later = [] };
}

-- before any entry
abbrev pub first_state : State
first_state = record { world = first_world; bounds = []; tables = []; doubts = []; commit = None }

-- the one range, number 1, has all keys, and server 0 holds it
abbrev pub first_row : MapRow
first_row = record { range = 1; server = 0; span = record { lo = At 0 []; hi = End } }

abbrev pub first_config : Configuration
first_config = record {
  rows = first_row ∷ [];
  next_ticks = (1, 0) ∷ [];
  plans = [];
  next_range = 2;
  next_plan = 1;
  kept_range = 2;
  kept_plan = 1;
  stopped = false;
}

abbrev pub first_course : Course
first_course = record { past = first_state; config = first_config; pending = [] }

-- ---- what every course keeps

-- The rows of a map over so many servers: their spans tile the space of keys, no two ranges have one number, and each
-- number was given for good.
pub record IsMap (servers : ℕ) (config : Configuration) : Type 0 where
  pub tiles : TileKeys config.rows
  pub differ : HaveOwnRanges config.rows
  pub given : All (λ row. row.range < config.kept_range) config.rows
  pub kept : config.kept_range ≤ config.next_range
  pub servers_are : All (λ row. row.server < servers) config.rows

-- a change in doubt is of a group
abbrev pub IsOfGroup : Doubt → Type 0
IsOfGroup (doubt.Change table group tick) = IsGroup group
IsOfGroup _ = ⊤

-- and its tick is not below the next one of its keys
abbrev pub IsNotBefore : Configuration → Doubt → Type 0
IsNotBefore config (doubt.Change table group tick) = All (λ key. next_tick_at config key ≤ tick) (group_keys table group)
IsNotBefore config _ = ⊤

-- the store of a row's server
abbrev pub store_of_row : Option MapRow → ℕ
store_of_row None = 0
store_of_row (Some row) = suc (suc row.server)

-- the store that an operation is about: that of the names, or that of the server that has the keys of a change
abbrev pub store_of : Configuration → Doubt → ℕ
store_of config (doubt.Change table group tick) = store_of_row (routed config.rows (group_keys table group))
store_of config (doubt.Create name table) = 1
store_of config (doubt.Drop name) = 1

-- A configuration over so many servers of what a history has come to: its rows are a map, its next ticks serve for the floors and for
-- the operations in doubt, and no two of these are about one store.
pub record IsConfiguration (servers : ℕ) (past : State) (config : Configuration) : Type 0 where
  pub map : IsMap servers config
  pub ticks : TicksServe past.world.floors config
  pub ticks_next : EachDoubt (IsNotBefore config) past.doubts
  pub stores_differ : AllPairs (λ a b. store_of config a.1 ≢ store_of config b.1) past.doubts

-- What every course of a store over so many servers keeps.
pub record IsCourse (servers : ℕ) (course : Course) : Type 0 where
  pub world : IsWorld course.past.world
  pub doubts : AreOpen course.past.world course.past.doubts
  pub tables : HasTablesBelow course.past
  pub groups : EachDoubt IsOfGroup course.past.doubts
  pub asks_differ : AllPairs (λ a b. a.0 ≢ b.0) course.past.doubts
  pub config : IsConfiguration servers course.past course.config
  pub pending_differ : AllPairs (λ a b. a.ask ≢ b.ask) course.pending

-- where a commit is in doubt, its plan is adopted, and makes a configuration
pub record MayCommit (servers : ℕ) (course : Course) (plan : ℕ) : Type 0 where
  pub adopted : state_of course.config.plans plan ≡ plan_state.Adopted
  pub config : IsConfiguration servers course.past (committed_by course.config plan)
