-- Names and values of properties, with their limits and their sizes.
use Rattle.std.specs.Prelude.{ℕ, ◌+◌, ◌*◌, ◌^◌, ◌≤◌, ◌<◌, ◌≡◌, List, [], ◌∷◌, length, Bool, true, false, ◌&&◌, ◌||◌, ◌==◌, nat_le, chars, codes, bytes_eq, All, IsUtf8, FitsSigned, ⊤}
use Rattle.std.specs.Int.{w32, w64}
use Rattle.std.specs.List.{list_all}
use Rattle.unicode_ident.specs.Ident.{is_xid_start, is_xid_continue}
use Rattle.tab_edm.specs.Texts.{unit_count}
use Rattle.tab_edm.specs.declared.values.Value.{Value}
use Rattle.tab_edm.specs.declared.values.Value.TheVariants.{Text, Flag, Int32, Int64, Moment, Guid, Bytes}
use Rattle.tab_edm.specs.declared.values.Property.{Property}
use Rattle.tab_edm.specs.declared.values.TheConstants.{MOST_TEXT_UNITS, MOST_BINARY_BYTES}
use Rattle.tab_edm.specs.declared.TheConstants.{GREATEST}

-- what each value of the program is: a text in UTF-8, a number of its size, a moment in 64 bits, 16 bytes, or bytes
abbrev pub IsValue : Value → Type 0
IsValue (Text text) = IsUtf8 text
IsValue (Flag b) = ⊤
IsValue (Int32 n) = FitsSigned w32 n
IsValue (Int64 n) = FitsSigned w64 n
IsValue (Moment tick) = tick < 2 ^ 64
IsValue (Guid bytes) = (length bytes ≡ 16) × All (λ b. b < 256) bytes
IsValue (Bytes bytes) = All (λ b. b < 256) bytes

-- what each property of the program is
pub record IsProperty (property : Property) : Type 0 where
  pub name : IsUtf8 property.name
  pub value : IsValue property.value

-- a character that may begin a name, and one that may go on with it
abbrev pub begins_name : ℕ → Bool
begins_name c = is_xid_start c || c == 95

-- the characters of an identifier
unfoldable pub is_identifier : List ℕ → Bool
is_identifier [] = false
is_identifier (c ∷ cs) = begins_name c && list_all is_xid_continue cs

-- a name that is an identifier
abbrev pub is_valid_name : List ℕ → Bool
is_valid_name name = is_identifier (chars name)

-- at most 32,768 units, or 65,536 bytes
unfoldable pub is_small : Value → Bool
is_small (Text text) = nat_le (unit_count text) MOST_TEXT_UNITS
is_small (Bytes bytes) = nat_le (length bytes) MOST_BINARY_BYTES
is_small (Flag b) = true
is_small (Int32 n) = true
is_small (Int64 n) = true
is_small (Moment tick) = true
is_small (Guid bytes) = true

-- a moment is at most the last one
abbrev pub IsInTime : Value → Type 0
IsInTime (Moment tick) = tick ≤ GREATEST
IsInTime (Text text) = ⊤
IsInTime (Flag b) = ⊤
IsInTime (Int32 n) = ⊤
IsInTime (Int64 n) = ⊤
IsInTime (Guid bytes) = ⊤
IsInTime (Bytes bytes) = ⊤

-- the bytes that a value counts for in an entity's size
unfoldable pub value_size : Value → ℕ
value_size (Text text) = 4 + 2 * unit_count text
value_size (Flag b) = 1
value_size (Int32 n) = 4
value_size (Int64 n) = 8
value_size (Moment tick) = 8
value_size (Guid bytes) = 16
value_size (Bytes bytes) = 4 + length bytes

unfoldable pub property_size : Property → ℕ
property_size p = 8 + 2 * unit_count p.name + value_size p.value

-- the names that the service keeps for itself
abbrev pub is_reserved : List ℕ → Bool
is_reserved name = bytes_eq name (codes "PartitionKey") || bytes_eq name (codes "RowKey") || bytes_eq name (codes "Timestamp")
