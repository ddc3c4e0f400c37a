-- What a command comes to over the rows of a range.
use Rattle.std.specs.Prelude.{◌≡◌, ◌≢◌, ℕ, ◌+◌, List, length, map, max, nat_lt, if◌then◌else◌, All, Option, Some, None, Result, Ok, Err, ⊤}
use Rattle.tab_keys.specs.declared.bounds.Bound.{Bound}
use Rattle.tab_edm.specs.declared.TheConstants.{GREATEST}
use Rattle.tab_rows.specs.Rows.{RowView, row_at}
use Rattle.tab_page.specs.Pages.{page_below}
use Rattle.tab_ops.specs.Groups.{ItemView, IsGroup}
use Rattle.tab_ops.specs.Changes.{group_outcome, group_keys, applied, change_key, HasTick, IsTimely}
use Rattle.tab_ops.specs.declared.groups.OpRefused.{OpRefused}
use Rattle.tab_ops.specs.declared.plans.Changes.{Changes}
use Rattle.tab_history.specs.declared.asks.Reply.{Reply}
use Rattle.tab_history.specs.declared.asks.Reply.TheVariants as reply
use Rattle.tab_history.specs.declared.entries.Denied.{Denied}
use Rattle.tab_history.specs.declared.entries.Denied.TheVariants as denied
use Rattle.tab_range.specs.declared.commands.Command.{Command}
use Rattle.tab_range.specs.declared.commands.What.{What}
use Rattle.tab_range.specs.declared.commands.What.TheVariants as what
use Rattle.tab_range.specs.declared.commands.Answer.{Answer}
use Rattle.tab_range.specs.declared.commands.Answer.TheVariants as answer

-- What a command comes to: its reply or why it is refused, the tick that an accepted change gets, and the rows and the next
-- tick that it leaves.
pub record Outcome : Type 0 where
  pub answer : Result Reply Denied
  pub tick : Option ℕ
  pub rows : List RowView
  pub next_tick : ℕ

-- it changes nothing, and is answered this
abbrev pub unchanged : List RowView → ℕ → Result Reply Denied → Outcome
unchanged rows next_tick answer = record { answer = answer; tick = None; rows = rows; next_tick = next_tick }

-- it is a change with this tick, and leaves these rows
abbrev pub accepted : ℕ → List RowView → Outcome
accepted tick rows = record { answer = Ok (reply.Changed tick); tick = Some tick; rows = rows; next_tick = tick + 1 }

-- the row, or that there is none
abbrev pub found_or_not : Option RowView → Result Reply Denied
found_or_not (Some row) = Ok (reply.Found row)
found_or_not None = Err denied.NotFound

-- a group that leaves these rows or is refused
abbrev pub group_answered : List RowView → ℕ → ℕ → Result (List RowView) OpRefused → Outcome
group_answered rows next_tick tick (Ok after) = accepted tick after
group_answered rows next_tick tick (Err why) = unchanged rows next_tick (Err (denied.Op why))

-- a group with this tick; none is left above the greatest moment
abbrev pub group_with_tick : List RowView → ℕ → ℕ → List ItemView → ℕ → Outcome
group_with_tick rows next_tick table group tick =
    if nat_lt GREATEST tick then unchanged rows next_tick (Err denied.TimeSpent)
    else group_answered rows next_tick tick (group_outcome rows table tick group)

-- over the rows of a range that ends at this bound, with this next tick, at a moment in ticks
abbrev pub outcome_of : List RowView → ℕ → Bound → ℕ → What → ℕ → Outcome
outcome_of rows next_tick hi table (what.Get pk rk) now = unchanged rows next_tick (found_or_not (row_at rows (record { table = table; pk = pk; rk = rk })))
outcome_of rows next_tick hi table (what.Page options) now = unchanged rows next_tick (Ok (reply.Listed (page_below rows table options hi)))
outcome_of rows next_tick hi table (what.Change group) now = group_with_tick rows next_tick table group (max now next_tick)

abbrev pub command_outcome : List RowView → ℕ → Bound → Command → ℕ → Outcome
command_outcome rows next_tick hi command now = outcome_of rows next_tick hi command.table command.what now

-- ---- answers

-- What is answered is what the command comes to, unless no memory was found.
abbrev pub IsDue : List RowView → ℕ → Outcome → Result Answer Denied → Type 0
IsDue rows next_tick outcome (Ok (answer.Reply reply)) = outcome ≡ unchanged rows next_tick (Ok reply)
IsDue rows next_tick outcome (Ok (answer.Change changes)) = outcome ≡ accepted changes.tick (applied rows changes.list)
IsDue rows next_tick outcome (Err why) = why ≢ denied.Memory → outcome ≡ unchanged rows next_tick (Err why)

-- the changes are one for each operation of a group, of its key, and each row that is put has their tick
pub record AreOfGroup (table : ℕ) (group : List ItemView) (changes : Changes) : Type 0 where
  pub is_group : IsGroup group
  pub each : length changes.list ≡ length group
  pub keys : map change_key changes.list ≡ group_keys table group
  pub put : All (HasTick changes.tick) changes.list

abbrev pub AreOf : Command → Answer → Type 0
AreOf command (answer.Reply reply) = ⊤
AreOf command (answer.Change changes) = (group : List ItemView) × (command.what ≡ what.Change group) × AreOfGroup command.table group changes

-- it changes nothing
abbrev pub IsReply : Answer → Type 0
IsReply (answer.Reply reply) = ⊤
IsReply (answer.Change changes) = ⊥

-- what a change is asked by is a group
abbrev pub HasGroup : What → Type 0
HasGroup (what.Get pk rk) = ⊤
HasGroup (what.Page options) = ⊤
HasGroup (what.Change group) = IsGroup group

-- the tick that a refusal names is a moment
abbrev pub IsTimelyDenial : Denied → Type 0
IsTimelyDenial (denied.Op why) = IsTimely why
IsTimelyDenial _ = ⊤
