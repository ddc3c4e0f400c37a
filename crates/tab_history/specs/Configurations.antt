-- How the keys are spread over servers: the rows of the map, the plans that change them, and what each entry of a history
-- makes of both.
use Rattle.std.specs.Prelude.{ℕ, ◌+◌, ◌==◌, max, List, [], ◌∷◌, ◌++◌, length, map, filter, find, not, Bool, true, false, if◌then◌else◌, Option, Some, None, option_map, unwrap_or}
use Rattle.std.specs.List.{list_any}
use Rattle.tab_keys.specs.Spans.{Interval, has}
use Rattle.tab_keys.specs.declared.keys.Key.{Key}
use Rattle.tab_keys.specs.declared.bounds.Bound.{Bound}
use Rattle.tab_ops.specs.Changes.{group_keys}
use Rattle.tab_history.specs.Legality.{State, accepted, after}
use Rattle.tab_history.specs.declared.entries.Entry.{Entry}
use Rattle.tab_history.specs.declared.entries.Entry.TheVariants as entry
use Rattle.tab_history.specs.declared.entries.Doubt.{Doubt}
use Rattle.tab_history.specs.declared.entries.Doubt.TheVariants as doubt
use Rattle.tab_history.specs.declared.plans.PlanState.{PlanState}
use Rattle.tab_history.specs.declared.plans.PlanState.TheVariants as plan_state
use Rattle.tab_history.specs.declared.plans.Turn.{Turn}
use Rattle.tab_history.specs.declared.plans.Turn.TheVariants as turn

-- ---- the map

-- a row of the map: a range, the server that holds it, and its keys
pub record MapRow : Type 0 where
  pub range : ℕ
  pub server : ℕ
  pub span : Interval

-- the row that has a key
unfoldable pub row_with : List MapRow → Key → Option MapRow
row_with rows key = find (λ row. has row.span key) rows

-- the lower bounds of the rows
abbrev pub bounds_of : List MapRow → List Bound
bounds_of rows = map (λ row. row.span.lo) rows

-- a row is one of these, by its range
abbrev pub is_among : List MapRow → MapRow → Bool
is_among rows row = list_any (λ other. other.range == row.range) rows

-- the rows, with new ones in the place of the first old one and none in that of the others
unfoldable pub replaced : List MapRow → List MapRow → List MapRow → List MapRow
replaced [] olds news = []
replaced (row ∷ rows) olds news = if is_among olds row then news ++ filter (λ other. not (is_among olds other)) rows else row ∷ replaced rows olds news

-- ---- plans

-- a plan that has not ended: its number, the rows that it takes out of the map, those that it puts in, and where it stands
pub record PlanView : Type 0 where
  pub plan : ℕ
  pub old_rows : List MapRow
  pub new_rows : List MapRow
  pub state : PlanState

unfoldable pub plan_numbered : List PlanView → ℕ → Option PlanView
plan_numbered plans number = find (λ plan. plan.plan == number) plans

-- where a plan stands; one that has ended, or was never made, stands nowhere
abbrev pub state_of : List PlanView → ℕ → PlanState
state_of plans number = unwrap_or (option_map (λ plan. plan.state) (plan_numbered plans number)) plan_state.NoPlan

abbrev pub set_state : ℕ → PlanState → PlanView → PlanView
set_state number next plan = if plan.plan == number then record plan { state = next } else plan

abbrev pub with_state : List PlanView → ℕ → PlanState → List PlanView
with_state plans number next = map (set_state number next) plans

abbrev pub without_plan : List PlanView → ℕ → List PlanView
without_plan plans number = filter (λ plan. not (plan.plan == number)) plans

-- ---- the whole

-- The rows of the map in the order of keys, the least tick of each range's next change, the last one first, the plans that
-- have not ended, and the next numbers of ranges and plans, each with the one from which an opening would go on.
pub record Configuration : Type 0 where
  pub rows : List MapRow
  pub next_ticks : List (ℕ × ℕ)
  pub plans : List PlanView
  pub next_range : ℕ
  pub next_plan : ℕ
  pub kept_range : ℕ
  pub kept_plan : ℕ
  -- all was stopped, and the opening has not come yet
  pub stopped : Bool

-- the least tick of a range's next change
unfoldable pub next_tick_of : List (ℕ × ℕ) → ℕ → ℕ
next_tick_of ticks range = unwrap_or (option_map (λ next. next.1) (find (λ next. next.0 == range) ticks)) 0

-- and that of a key's
abbrev pub next_tick_at : Configuration → Key → ℕ
next_tick_at config key = unwrap_or (option_map (λ row. next_tick_of config.next_ticks row.range) (row_with config.rows key)) 0

-- the tick of a change that stands at this moment
abbrev pub tick_at : Configuration → ℕ → Key → ℕ
tick_at config now key = max now (next_tick_at config key)

-- ---- steps

-- a range's next tick is past the tick of a change, and falls at none
abbrev pub ticked_in : Configuration → Option MapRow → ℕ → Configuration
ticked_in config None tick = config
ticked_in config (Some row) tick = record config { next_ticks = (row.range, max (tick + 1) (next_tick_of config.next_ticks row.range)) ∷ config.next_ticks }

-- a change is one of the range that has its first key
abbrev pub ticked_at : Configuration → List Key → ℕ → Configuration
ticked_at config [] tick = config
ticked_at config (key ∷ keys) tick = ticked_in config (row_with config.rows key) tick

-- behind an operation
abbrev pub ticked : Configuration → Option Doubt → Configuration
ticked config (Some (doubt.Change table group tick)) = ticked_at config (group_keys table group) tick
ticked config _ = config

-- A plan that was made takes its number, and a number for each of its new rows. It is made behind the entries that an event
-- settles first, and before its own turn.
abbrev pub planned : Configuration → PlanView → Configuration
planned config plan = record config {
  plans = plan ∷ config.plans;
  next_range = config.next_range + length plan.new_rows;
  next_plan = plan.plan + 1;
}

-- the greatest of the next ticks of these rows
abbrev pub greatest_tick : List (ℕ × ℕ) → List MapRow → ℕ
greatest_tick ticks [] = 0
greatest_tick ticks (row ∷ rows) = max (next_tick_of ticks row.range) (greatest_tick ticks rows)

-- a plan's rows stand in the map, and the numbers that were given are kept; ranges that were parted keep their next tick, and
-- one that was put together has the greater one
abbrev pub committed : Configuration → Option PlanView → Configuration
committed config None = config
committed config (Some plan) = record config {
  rows = replaced config.rows plan.old_rows plan.new_rows;
  next_ticks = map (λ row. (row.range, greatest_tick config.next_ticks plan.old_rows)) plan.new_rows ++ config.next_ticks;
  plans = with_state config.plans plan.plan plan_state.Committed;
  kept_range = config.next_range;
  kept_plan = max config.kept_plan (plan.plan + 1);
}

-- a plan that was made stands there already
abbrev pub turned : Configuration → ℕ → Turn → Configuration
turned config plan turn.Planned = config
turned config plan turn.Sealed = record config { plans = with_state config.plans plan plan_state.Sealed }
turned config plan turn.Adopted = record config { plans = with_state config.plans plan plan_state.Adopted }
turned config plan turn.Committed = committed config (plan_numbered config.plans plan)
turned config plan turn.Served = record config { plans = without_plan config.plans plan }
turned config plan turn.Cancelled = record config { plans = without_plan config.plans plan }

-- an opening ends all plans, and goes on from the numbers that were kept; a run's own begins as behind a stop
abbrev pub opened_again : Configuration → Bool → Configuration
opened_again config true = record config { plans = []; next_range = config.kept_range; next_plan = config.kept_plan; stopped = false }
opened_again config false = config

abbrev pub turned_by : Configuration → Entry → Configuration
turned_by config (entry.Turn plan turn) = turned config plan turn
turned_by config entry.Stopped = record config { stopped = true }
turned_by config (entry.Bounds bounds) = opened_again config config.stopped
turned_by config _ = config

-- the configuration after an entry, and after several, where these doubts are open before each
abbrev pub config_after : Configuration → List (ℕ × Doubt) → Entry → Configuration
config_after config doubts entry = turned_by (ticked config (accepted doubts entry)) entry

abbrev pub config_after_all : Configuration → State → List Entry → Configuration
config_after_all config state [] = config
config_after_all config state (entry ∷ entries) = config_after_all (config_after config state.doubts entry) (after state entry) entries
