-- The name of a table is the text of a key.
use Rattle.std.proofs.Common.{◌≡◌, ℕ, ◌<◌, List, [], ◌∷◌, ◌++◌, length, Bool, true, false, ◌&&◌, ◌||◌, cond, All, Option, Some, None, refl, ap, ◌∙◌, arith, nat_lt, nat_le, bytes_eq}
use Rattle.std.specs.Prelude.{codes, slice_index}
use Rattle.std.specs.List.{list_all, list_any, flat_map}
use Rattle.std.specs.Char.Escape.{encode_utf16}
use Rattle.std.proofs.lemmas.Bool.{and_parts}
use Rattle.std.proofs.lemmas.Bool.Decides.{nat_tests}
use Rattle.std.proofs.lemmas.List.Elements.{All-nil, All-cons}
use Rattle.std.proofs.lemmas.Str.{IsUtf8-from_ascii, chars-IsAscii}
use Rattle.std.proofs.lemmas.Str.Ascii.{IsAscii-from_all}
use Rattle.tab_keys.specs.KeyTexts.{units_of, is_bad_character, key_refusal, IsKeyText}
use Rattle.tab_keys.specs.TableNames.{is_letter, is_digit, is_well_formed, name_refusal, folded}
use Rattle.tab_keys.specs.declared.table_names.NameRefused.{NameRefused}
use Rattle.tab_keys.specs.declared.table_names.NameRefused.TheVariants.{BadName, Reserved}

is_plain : ℕ → Bool
is_plain b = is_letter b || is_digit b

plain_low : (b : ℕ) → is_plain b ≡ true → b < 128
unfolding is_plain
plain_low b is = grind (arith, nat_tests)

plain_good : (b : ℕ) → is_plain b ≡ true → is_bad_character b ≡ false
unfolding is_plain
plain_good b is = grind (arith, nat_tests)

plain_unit : (b : ℕ) → b < 128 → encode_utf16 b ≡ b ∷ []
plain_unit b low =
    let small : nat_lt b 0x1_0000 ≡ true = grind (arith, nat_tests) in
    rw small refl

low_all : (xs : List ℕ) → list_all is_plain xs ≡ true → All (λ b. b < 128) xs
low_all [] is = All-nil (λ b. b < 128)
low_all (x ∷ xs) is = let parts = and_parts (is_plain x) (list_all is_plain xs) is in All-cons (λ b. b < 128) x xs (plain_low x parts.0) (low_all xs parts.1)

units_alike : (xs : List ℕ) → list_all is_plain xs ≡ true → flat_map encode_utf16 xs ≡ xs
units_alike [] is = refl
units_alike (x ∷ xs) is =
    let parts = and_parts (is_plain x) (list_all is_plain xs) is in
    ap (λ (units : List ℕ). units ++ flat_map encode_utf16 xs) (plain_unit x (plain_low x parts.0)) ∙ ap (λ (units : List ℕ). x ∷ units) (units_alike xs parts.1)

none_bad : (xs : List ℕ) → list_all is_plain xs ≡ true → list_any is_bad_character xs ≡ false
none_bad [] is = refl
none_bad (x ∷ xs) is =
    let parts = and_parts (is_plain x) (list_all is_plain xs) is in
    ap (λ (test : Bool). test || list_any is_bad_character xs) (plain_good x parts.0) ∙ none_bad xs parts.1

record IsPlainName (name : List ℕ) : Type 0 where
  short : nat_le (length name) 63 ≡ true
  plain : list_all is_plain name ≡ true

plain_name : (name : List ℕ) → name_refusal name ≡ None → IsPlainName name
unfolding name_refusal is_well_formed is_plain
plain_name name allowed =
    let whole = formed (is_well_formed name) (bytes_eq (folded name) (codes "tables")) allowed in
    let parts = and_parts (nat_le 3 (length name) && nat_le (length name) 63 && is_letter (slice_index name 0)) (list_all (λ b. is_letter b || is_digit b) name) whole in
    let front = and_parts (nat_le 3 (length name) && nat_le (length name) 63) (is_letter (slice_index name 0)) parts.0 in
    let sizes = and_parts (nat_le 3 (length name)) (nat_le (length name) 63) front.0 in
    record { short = sizes.1; plain = parts.1 }
  where
    formed : (good taken : Bool) → ◌≡◌ {A = Option NameRefused} (cond good (cond taken (Some Reserved) None) (Some BadName)) None → good ≡ true
    formed true taken e = refl
    formed false taken e = cc e

pub name_is_key : (name : List ℕ) → name_refusal name ≡ None → IsKeyText name
unfolding key_refusal units_of
name_is_key name allowed =
    let is = plain_name name allowed in
    let ascii = IsAscii-from_all name (low_all name is.plain) in
    let short : nat_le (length name) 63 ≡ true = is.short in
    let few : nat_lt 1024 (length name) ≡ false = grind (arith, nat_tests, short) in
    record {
      utf8 = IsUtf8-from_ascii name ascii;
      allowed = rw (chars-IsAscii name ascii, units_alike name is.plain, few, none_bad name is.plain) refl;
    }
