-- Which lists of properties are entities.
use Rattle.std.specs.Prelude.{◌≡◌, ℕ, ◌+◌, ◌*◌, List, [], ◌∷◌, length, Bool, nat_lt, sum_by, All, AllPairs, IsTrue, IsFalse, Option, Some, None, if◌then◌else◌, Result, Ok, Err, bytes_eq}
use Rattle.std.specs.Ordering.{is_lt, nat_cmp}
use Rattle.std.specs.Option.{option_or}
use Rattle.std.specs.Cmp.Lexicographic.{slice_cmp}
use Rattle.tab_edm.specs.Texts.{char_count}
use Rattle.tab_edm.specs.Values.{is_valid_name, is_small, IsInTime, property_size, is_reserved}
use Rattle.tab_edm.specs.declared.values.Property.{Property}
use Rattle.tab_edm.specs.declared.values.Value.{Value}
use Rattle.tab_edm.specs.declared.values.TheConstants.{MOST_NAME_CHARACTERS}
use Rattle.tab_edm.specs.declared.values.PropertyFault.{PropertyFault}
use Rattle.tab_edm.specs.declared.entities.EdmRefused.{EdmRefused}
use Rattle.tab_edm.specs.declared.entities.TheConstants.{MOST_PROPERTIES, MOST_SIZE}
use Rattle.tab_edm.specs.declared.entities.EdmRefused.TheVariants.{NameInvalid, NameTooLong, ValueTooLarge, TooMany, TooLarge}

-- what contracts see of an entity: its properties, and the units of the keys that it was made for
pub record EntityView : Type 0 where
  pub properties : List Property
  pub pk_units : ℕ
  pub rk_units : ℕ

-- one name stands before another, byte by byte
abbrev pub name_lt : Property → Property → Bool
name_lt a b = is_lt (slice_cmp nat_cmp a.name b.name)

-- the names rise, so no two are the same
abbrev pub IsRising : List Property → Type 0
IsRising properties = AllPairs (λ a b. IsTrue (name_lt a b)) properties

-- the bytes that an entity counts for, its keys among them
unfoldable pub entity_size : ℕ → ℕ → List Property → ℕ
entity_size pk_units rk_units properties = 4 + 2 * (pk_units + rk_units) + sum_by property_size properties

-- a property with a fault as a refusal
abbrev pub refused : PropertyFault → Property → EdmRefused
refused PropertyFault.NameInvalid p = NameInvalid p
refused PropertyFault.NameTooLong p = NameTooLong p
refused PropertyFault.ValueTooLarge p = ValueTooLarge p

-- what is wrong with one property
unfoldable pub property_refusal : Property → Option EdmRefused
property_refusal p =
    if is_valid_name p.name then (if nat_lt MOST_NAME_CHARACTERS (char_count p.name) then Some (NameTooLong p) else (if is_small p.value then None else Some (ValueTooLarge p))) else Some (NameInvalid p)

-- what is wrong with the first property that has something wrong
unfoldable pub first_refusal : List Property → Option EdmRefused
first_refusal [] = None
first_refusal (p ∷ ps) = option_or (property_refusal p) (first_refusal ps)

-- why properties in rising order of their names make no entity, want of memory aside
unfoldable pub entity_refusal : ℕ → ℕ → List Property → Option EdmRefused
entity_refusal pk_units rk_units properties =
    option_or (first_refusal properties)
    (if nat_lt MOST_PROPERTIES (length properties) then Some TooMany else (if nat_lt MOST_SIZE (entity_size pk_units rk_units properties) then Some TooLarge else None))

-- properties in rising order of their names, none of them reserved, within all limits
pub record IsEntity (pk_units rk_units : ℕ) (properties : List Property) : Type 0 where
  pub rising : IsRising properties
  pub unreserved : All (λ p. IsFalse (is_reserved p.name)) properties
  pub in_time : All (λ p. IsInTime p.value) properties
  pub allowed : entity_refusal pk_units rk_units properties ≡ None

-- the entity, or why there is none
abbrev pub entity_or_refusal : EntityView → Option EdmRefused → Result EntityView EdmRefused
entity_or_refusal entity None = Ok entity
entity_or_refusal entity (Some why) = Err why

-- what is made of properties in rising order of their names, want of memory aside
unfoldable pub made : ℕ → ℕ → List Property → Result EntityView EdmRefused
made pk_units rk_units properties =
    entity_or_refusal (record { properties = properties; pk_units = pk_units; rk_units = rk_units }) (entity_refusal pk_units rk_units properties)

-- the value of the property with this name
unfoldable pub value_of : List ℕ → List Property → Option Value
value_of name [] = None
value_of name (p ∷ ps) = if bytes_eq p.name name then Some p.value else value_of name ps
