-- What contracts see of a held range.
use Rattle.std.specs.Prelude.{◌≡◌, ℕ, ◌+◌, List, All, IsTrue, Option, Some}
use Rattle.tab_keys.specs.Spans.{Interval, has}
use Rattle.tab_rows.specs.Rows.{RowView}
use Rattle.tab_seats.specs.declared.views.Stroke.{Stroke}
use Rattle.tab_range.specs.declared.commands.Command.{Command}
use Rattle.tab_range.specs.declared.commands.Told.{Told}
use Rattle.tab_range.specs.Outcomes.{Outcome, command_outcome}

-- a range's number, its keys, its rows and how many more can be put without memory, the least tick of its next change, and
-- its tally, where it has one
pub record RangeView (T : Type 0) : Type 0 where
  pub id : ℕ
  pub span : Interval
  pub rows : List RowView
  pub spare : ℕ
  pub next_tick : ℕ
  pub tally : Option T

abbrev pub LieIn : Interval → List RowView → Type 0
LieIn span rows = All (λ row. IsTrue (has span row.key)) rows

-- what a command comes to over a range at a moment in ticks
abbrev pub range_outcome : {T : Type 0} → RangeView T → Command → ℕ → Outcome
range_outcome range command now = command_outcome range.rows range.next_tick range.span.hi command now

-- A range's tally drew one stroke, of this command at this moment: it has one number less that it is ready for, and is of
-- one kin with what it was.
pub record DrewOne {T : Type 0} (is_drawn : T → Stroke Told → T → Type 0) (is_ready : T → ℕ → Type 0) (are_kin : T → T → Type 0) (told : Told) (now : ℕ) (before after : Option T) : Type 0 where
  pub from : T
  pub to : T
  pub number : ℕ
  pub held : before ≡ Some from
  pub holds : after ≡ Some to
  pub drew : is_drawn from (record { number = number; command = told; now = now }) to
  pub ready : (n : ℕ) → is_ready from (n + 1) → is_ready to n
  pub kin : are_kin from to
