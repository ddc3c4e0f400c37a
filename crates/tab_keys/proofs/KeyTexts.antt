-- What is known of each key text and of each table name.
use Rattle.std.proofs.Common.{◌≡◌, ℕ, ◌≤◌, List, [], length, true, false, None, refl, arith}
use Rattle.std.specs.List.{list_any}
use Rattle.std.specs.Str.{chars}
use Rattle.std.proofs.lemmas.Str.{chars-nil, IsUtf8-nil}
use Rattle.std.proofs.lemmas.Bool.Decides.{nat_tests}
use Rattle.tab_keys.specs.KeyTexts.{units_of, is_bad_character, key_refusal, IsKeyText}
use Rattle.tab_keys.specs.TableNames.{is_well_formed, name_refusal, IsTableName}
use Rattle.tab_keys.proofs.Units.{units_of-nil}

pub key_refusal-nil : key_refusal [] ≡ None
unfolding key_refusal
key_refusal-nil = rw (units_of-nil, chars-nil) refl

-- the empty text is a key
pub IsKeyText-nil : IsKeyText []
IsKeyText-nil = record { utf8 = IsUtf8-nil; allowed = key_refusal-nil }

pub IsKeyText-units : (text : List ℕ) → IsKeyText text → length (units_of text) ≤ 1024
unfolding key_refusal
IsKeyText-units text k = grind (arith, nat_tests, k.allowed)

pub IsKeyText-characters : (text : List ℕ) → IsKeyText text → list_any is_bad_character (chars text) ≡ false
unfolding key_refusal
IsKeyText-characters text k = grind (arith, nat_tests, k.allowed)

pub IsTableName-well_formed : (name : List ℕ) → IsTableName name → is_well_formed name ≡ true
unfolding name_refusal
IsTableName-well_formed name k = grind (arith, nat_tests, k.allowed)
