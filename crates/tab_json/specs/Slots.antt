-- The members of an object, lent: each in a slot of its own, the slots in byte order of the names.
use Rattle.std.specs.Prelude.{◌≡◌, ℕ, ◌+◌, ◌<◌, ◌≤◌, List, [], ◌∷◌, ◌++◌, length, take, drop, codes, All, AllPairs}
use Rattle.std.specs.List.{HoldsAt}
use Rattle.std.specs.Ordering.{nat_cmp}
use Rattle.std.specs.Cmp.Lexicographic.{slice_cmp}
use Rattle.std.specs.declared.cmp.Ordering.{Ordering}
use Rattle.std.specs.declared.cmp.Ordering.TheVariants.{Less, Equal}
use Rattle.serde_json.specs.Data.{Data, Members, no_members, member}
use Rattle.tab_json.specs.declared.slots.Name.{Name}
use Rattle.tab_json.specs.declared.slots.Name.TheVariants.{Plain, Annotation}
use Rattle.tab_json.specs.declared.slots.Slot.{Slot}

-- the text of a name that is lent, and what stands behind it
abbrev pub name_front : Name → List ℕ
name_front (Plain name) = name.now
name_front (Annotation name) = name.now

abbrev pub name_back : Name → List ℕ
name_back (Plain name) = []
name_back (Annotation name) = codes "@odata.type"

-- the text of a name
abbrev pub name_text : Name → List ℕ
name_text (Plain name) = name.now
name_text (Annotation name) = name.now ++ codes "@odata.type"

abbrev pub name_cmp : Name → Name → Ordering
name_cmp a b = slice_cmp nat_cmp (name_text a) (name_text b)

-- the names rise in byte order, so each stands once
abbrev pub AreRising : {V : Type 0} → List (Slot V) → Type 0
AreRising slots = AllPairs (λ a b. name_cmp a.name b.name ≡ Less) slots

-- the slot at this place has the name, those before it have lesser names, and those behind it greater ones
pub record StandsAt {V : Type 0} (slots : List (Slot V)) (name : Name) (place : ℕ) : Type 0 where
  pub within : place < length slots
  pub found : Slot V
  pub here : HoldsAt (λ other. other ≡ found) slots place
  pub same : name_cmp found.name name ≡ Equal
  pub below : All (λ other. name_cmp other.name name ≡ Less) (take place slots)
  pub above : All (λ other. name_cmp name other.name ≡ Less) (drop (place + 1) slots)

-- the slots before this place have lesser names, and the others have greater ones
pub record BelongsAt {V : Type 0} (slots : List (Slot V)) (name : Name) (place : ℕ) : Type 0 where
  pub within : place ≤ length slots
  pub below : All (λ other. name_cmp other.name name ≡ Less) (take place slots)
  pub above : All (λ other. name_cmp name other.name ≡ Less) (drop place slots)

-- the members in these slots, by the JSON values that theirs stand for
abbrev pub slot_members : {V : Type 0} → (V → Data) → List (Slot V) → Members
slot_members data_of [] = no_members
slot_members data_of (s ∷ slots) = member (name_text s.name) (data_of s.value) (slot_members data_of slots)
