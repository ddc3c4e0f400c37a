-- The members of a body that is read, lent.
use Rattle.std.specs.Prelude.{◌≡◌, List, [], All}
use Rattle.serde_json.specs.Data.{Data, null, boolean, number, string, object, Members}
use Rattle.serde_json.specs.View.{number_view, view}
use Rattle.tab_json.specs.Slots.{AreRising, name_back, slot_members}
use Rattle.tab_json.specs.declared.lent.Lent.{Lent}
use Rattle.tab_json.specs.declared.slots.Name.{Name}
use Rattle.tab_json.specs.declared.slots.Slot.{Slot}

-- the JSON value that is lent
abbrev pub lent_data : Lent → Data
lent_data Lent.Null = null
lent_data (Lent.Flag b) = boolean b
lent_data (Lent.Number n) = number (number_view n)
lent_data (Lent.Text text) = string text.now
lent_data (Lent.Tree value) = view value.now

-- a whole name is lent
abbrev pub IsPlain : Name → Type 0
IsPlain name = name_back name ≡ []

abbrev pub ArePlain : List (Slot Lent) → Type 0
ArePlain slots = All (λ s. IsPlain s.name) slots

pub record AreLent (slots : List (Slot Lent)) : Type 0 where
  pub rising : AreRising slots
  pub plain : ArePlain slots

-- the members that are lent, and the object that they make
abbrev pub lent_members : List (Slot Lent) → Members
lent_members = slot_members lent_data

abbrev pub lent_object : List (Slot Lent) → Data
lent_object slots = object (lent_members slots)
