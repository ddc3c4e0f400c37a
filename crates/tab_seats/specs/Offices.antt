-- What contracts see of a seat, a slip, a note and a pass, and what their types keep.
use Rattle.std.specs.Prelude.{◌≡◌, ℕ, ◌+◌, ◌<◌, ◌≤◌, ◌∷◌, ◌++◌, [], Some, None}
use Rattle.tab_keys.specs.Spans.{Interval}
use Rattle.atomic_table.specs.Seated.{TableId}
use Rattle.tab_seats.specs.declared.views.Stroke.{Stroke}
use Rattle.tab_seats.specs.declared.views.LogCopy.{LogCopy}
use Rattle.tab_seats.specs.declared.views.View.{View}
use Rattle.tab_seats.specs.Lists.{In}
use Rattle.tab_seats.specs.Logs.{next_number, IsByNumber, AreRising}
use Rattle.tab_seats.specs.Views.{slip_at}

-- one office: its table, the number of passes and the opening that it was opened for
pub record OfficeId (O : Type 0) : Type 0 where
  pub table : TableId
  pub passes : ℕ
  pub opening : O

pub record MemberView (C O : Type 0) : Type 0 where
  pub office : OfficeId O
  pub view : View C

-- A seat has a span. Its log is by number, and its rights are to numbers up to its last one.
pub record IsSeat {C : Type 0} (v : View C) : Type 0 where
  pub span : (s : Interval) × (v.span ≡ Some s)
  pub log : IsByNumber v.log
  pub rights : AreRising v.rights
  pub drawn : (n : ℕ) → In n v.rights → n < next_number v.log

-- A pass has no span. It knows the strokes of its notes, and no number that it may list is above those that it knows.
pub record IsPass {C : Type 0} (v : View C) : Type 0 where
  pub span : v.span ≡ None
  pub log : IsByNumber v.log
  pub notes : (p : LogCopy C) → In p v.notes → (x : Stroke C) → In x p.log → In x v.log
  pub mine : AreRising v.rights
  pub known : (n : ℕ) → In n v.rights → n < next_number v.log

-- A note has one copy of a log, by number, and a right to the log's last number at most.
pub record IsNote {C : Type 0} (v : View C) : Type 0 where
  pub span : v.span ≡ None
  pub permits : v.permits ≡ 0
  pub log : IsByNumber v.log
  pub copy : (p : LogCopy C) × (v.notes ≡ p ∷ []) × (p.log ≡ v.log)
  pub last : (n : ℕ) → In n v.rights → n < next_number v.log

-- a front and a permit
abbrev pub IsSlip : {C : Type 0} → View C → Type 0
IsSlip v = (front : ℕ) × (v ≡ slip_at front)

-- a seat before a draw, the stroke, and the seat after
pub record Drew {C O : Type 0} (before : MemberView C O) (stroke : Stroke C) (after : MemberView C O) : Type 0 where
  pub office : after.office ≡ before.office
  pub span : after.view.span ≡ before.view.span
  pub log : after.view.log ≡ before.view.log ++ stroke ∷ []
  pub front : after.view.front ≡ before.view.front
  pub number : before.view.front ≤ stroke.number
  pub right : after.view.rights ≡ before.view.rights ++ stroke.number ∷ []
  pub permits : after.view.permits + 1 ≡ before.view.permits
