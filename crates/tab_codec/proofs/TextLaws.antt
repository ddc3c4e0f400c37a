-- Texts: what is UTF-8, and what a field gives that is allowed or not.
use Rattle.std.proofs.Common.{◌≡◌, ℕ, ◌*◌, ◌≤◌, Bool, true, false, ◌&&◌, List, [], ◌∷◌, length, None, Ok, Err, refl, subst, length-append, arith}
use Rattle.std.specs.Prelude.{IsUtf8, nat_le, not}
use Rattle.std.specs.List.{flat_map}
use Rattle.std.specs.Str.{is_utf8, chars}
use Rattle.std.specs.Char.Escape.{encode_utf16}
use Rattle.std.proofs.lemmas.Bool.Decides.{nat_tests}
use Rattle.std.proofs.lemmas.Str.{IsUtf8-from_is_utf8, is_utf8-from_IsUtf8}
use Rattle.tab_keys.specs.KeyTexts.{key_refusal}
use Rattle.tab_keys.specs.TableNames.{name_refusal}
use Rattle.tab_edm.specs.Texts.{unit_count, char_count}
use Rattle.tab_edm.specs.Values.{is_valid_name, is_reserved}
use Rattle.tab_codec.specs.Reading.{Read, allowing, is_key_text, is_table_name, is_property_name}
use Rattle.tab_codec.proofs.KeyLaws.{both_true}

pub allowed_gives : {A : Type 0} (allowed : A → Bool) (field : List ℕ → Read A) (bytes : List ℕ) (x : A) (rest : List ℕ) → field bytes ≡ Ok (x, rest) → allowed x ≡ true → allowing allowed field bytes ≡ Ok (x, rest)
unfolding allowing
allowed_gives allowed field bytes x rest e t = rw (e, t) refl

pub refused_gives : {A : Type 0} (allowed : A → Bool) (field : List ℕ → Read A) (bytes : List ℕ) (x : A) (rest : List ℕ) → field bytes ≡ Ok (x, rest) → allowed x ≡ false → allowing allowed field bytes ≡ Err (length bytes)
unfolding allowing
refused_gives allowed field bytes x rest e t = rw (e, t) refl

fails_so : (t : List ℕ) (b : Bool) → is_utf8 t ≡ b → ¬ (IsUtf8 t) → is_utf8 t ≡ false
fails_so t true e h = absurd (h (IsUtf8-from_is_utf8 t e))
fails_so t false e h = e

pub utf8_fails : (t : List ℕ) → ¬ (IsUtf8 t) → is_utf8 t ≡ false
utf8_fails t h = fails_so t (is_utf8 t) refl h

pub utf8_passes : (t : List ℕ) → IsUtf8 t → is_utf8 t ≡ true
utf8_passes t h = is_utf8-from_IsUtf8 t h

pub no_key_text : (t : List ℕ) → ¬ (IsUtf8 t) → is_key_text t ≡ false
no_key_text t h = rw (utf8_fails t h) refl

pub key_text_passes : (t u : List ℕ) → u ≡ t → IsUtf8 t → key_refusal u ≡ None → is_key_text t ≡ true
key_text_passes t u same utf8 e =
    let none : key_refusal t ≡ None = subst (λ (s : List ℕ). key_refusal s ≡ None) same e in
    rw (utf8_passes t utf8, none) refl

pub no_table_name : (t : List ℕ) → ¬ (IsUtf8 t) → is_table_name t ≡ false
no_table_name t h = rw (utf8_fails t h) refl

pub table_name_passes : (t u : List ℕ) → u ≡ t → IsUtf8 t → name_refusal u ≡ None → is_table_name t ≡ true
table_name_passes t u same utf8 e =
    let none : name_refusal t ≡ None = subst (λ (s : List ℕ). name_refusal s ≡ None) same e in
    rw (utf8_passes t utf8, none) refl

two_units_each : (cs : List ℕ) → length (flat_map encode_utf16 cs) ≤ 2 * length cs
two_units_each [] = omega arith
two_units_each (c ∷ cs) =
    let few : length (encode_utf16 c) ≤ 2 = grind (arith, nat_tests) in
    omega (arith, length-append (encode_utf16 c) (flat_map encode_utf16 cs), two_units_each cs)

units_at_most : (text : List ℕ) → unit_count text ≤ 2 * char_count text
unfolding unit_count char_count
units_at_most text = two_units_each (chars text)

le_from : (a b : ℕ) → nat_le a b ≡ true → a ≤ b
le_from a b e = grind (arith, nat_tests)

-- the name of a property has at most 510 units
pub short_name : (name : List ℕ) → is_property_name name ≡ true → unit_count name ≤ 510
short_name name h =
    let named = both_true (is_valid_name name && nat_le (char_count name) 255) (not (is_reserved name)) h in
    let few : char_count name ≤ 255 = le_from _ _ (both_true (is_valid_name name) (nat_le (char_count name) 255) named.0).1 in
    omega (arith, units_at_most name)
