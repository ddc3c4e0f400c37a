-- Which texts are table names, and when two names are one.
use Rattle.std.specs.Prelude.{◌≡◌, ℕ, ◌+◌, List, length, map, Bool, ◌&&◌, ◌||◌, nat_le, if◌then◌else◌, Option, Some, None, codes, bytes_eq, slice_index}
use Rattle.std.specs.List.{list_all}
use Rattle.tab_keys.specs.declared.table_names.NameRefused.{NameRefused}
use Rattle.tab_keys.specs.declared.table_names.NameRefused.TheVariants.{BadName, Reserved}
use Rattle.tab_keys.specs.declared.table_names.TheConstants.{LEAST_LETTERS, MOST_LETTERS}

-- an ASCII letter in lower case, and any other byte as it is
abbrev pub fold_byte : ℕ → ℕ
fold_byte b = if nat_le 65 b && nat_le b 90 then b + 32 else b

-- a name without its case
unfoldable pub folded : List ℕ → List ℕ
folded name = map fold_byte name

abbrev pub is_letter : ℕ → Bool
is_letter b = (nat_le 65 b && nat_le b 90) || (nat_le 97 b && nat_le b 122)

abbrev pub is_digit : ℕ → Bool
is_digit b = nat_le 48 b && nat_le b 57

-- 3 to 63 ASCII letters and digits that begin with a letter
unfoldable pub is_well_formed : List ℕ → Bool
is_well_formed name =
    nat_le LEAST_LETTERS (length name) && nat_le (length name) MOST_LETTERS && is_letter (slice_index name 0) && list_all (λ b. is_letter b || is_digit b) name

-- why a text is no table name, want of memory aside
unfoldable pub name_refusal : List ℕ → Option NameRefused
name_refusal name =
    if is_well_formed name then (if bytes_eq (folded name) (codes "tables") then Some Reserved else None) else Some BadName

-- a text that is a table name
pub record IsTableName (name : List ℕ) : Type 0 where
  pub allowed : name_refusal name ≡ None
