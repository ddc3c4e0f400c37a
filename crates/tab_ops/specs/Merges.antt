-- Properties that a merge keeps, and its refusals.
use Rattle.std.specs.Prelude.{ℕ, List, Bool, is_none}
use Rattle.tab_edm.specs.Entities.{value_of}
use Rattle.tab_edm.specs.declared.values.Property.{Property}
use Rattle.tab_edm.specs.declared.entities.EdmRefused.{EdmRefused}
use Rattle.tab_ops.specs.declared.groups.OpRefused.{OpRefused}
use Rattle.tab_ops.specs.declared.groups.OpRefused.TheVariants.{TooMany, TooLarge, Memory}

-- no given property has the name of this one
abbrev pub is_kept : List Property → Property → Bool
is_kept given property = is_none (value_of property.name given)

-- the refusal of a merge whose entity is refused so
abbrev pub refusal_for : ℕ → EdmRefused → OpRefused
refusal_for index EdmRefused.TooMany = TooMany index
refusal_for index EdmRefused.TooLarge = TooLarge index
refusal_for index EdmRefused.Memory = Memory
refusal_for index (EdmRefused.NameInvalid property) = Memory
refusal_for index (EdmRefused.NameTooLong property) = Memory
refusal_for index (EdmRefused.ValueTooLarge property) = Memory
