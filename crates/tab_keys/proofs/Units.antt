-- The code units of a text, counted by its bytes.
use Rattle.std.proofs.Common.{◌≡◌, ℕ, ◌+◌, ◌/◌, ◌%◌, ◌<◌, ◌≤◌, List, [], ◌∷◌, length, sum_by, refl, sym, ap, ◌∙◌, arith, length-append}
use Rattle.std.specs.List.{flat_map}
use Rattle.std.specs.Char.Escape.{encode_utf16}
use Rattle.std.specs.Str.{IsUtf8}
use Rattle.std.proofs.Math.Utf8.{encode, encodes}
use Rattle.std.proofs.lemmas.Bool.Decides.{nat_tests}
use Rattle.std.proofs.lemmas.List.Sums.{sum_by-append}
use Rattle.std.proofs.lemmas.Str.{chars-nil, chars-encodes}
use Rattle.tab_keys.specs.KeyTexts.{units_of, units_begun}

pub units_of-nil : units_of [] ≡ []
unfolding units_of
units_of-nil = ap (flat_map encode_utf16) chars-nil

one_unit : (b : ℕ) → b < 0x80 → units_begun b ≡ 1
one_unit b h = grind (arith, nat_tests)

no_unit : (b : ℕ) → b < 64 → units_begun (128 + b) ≡ 0
no_unit b h = grind (arith, nat_tests)

lead_unit : (b : ℕ) → 0xC0 ≤ b → b < 0xF0 → units_begun b ≡ 1
lead_unit b low high = grind (arith, nat_tests)

two_units : (b : ℕ) → 0xF0 ≤ b → units_begun b ≡ 2
two_units b low = grind (arith, nat_tests)

-- each character's bytes begin as many units as it has
units_of_char : (c : ℕ) → sum_by units_begun (encode c) ≡ length (encode_utf16 c)
unfolding encode
units_of_char c =
    grind (arith, nat_tests, one_unit c, lead_unit (192 + c / 64), lead_unit (224 + c / 4096), two_units (240 + c / 262144), no_unit (c % 64), no_unit (c / 64 % 64), no_unit (c / 4096 % 64))

units_of_chars : (cs : List ℕ) → sum_by units_begun (encodes cs) ≡ length (flat_map encode_utf16 cs)
units_of_chars [] = refl
units_of_chars (c ∷ cs) =
    sum_by-append units_begun (encode c) (encodes cs) ∙ omega (arith, units_of_char c, units_of_chars cs, length-append (encode_utf16 c) (flat_map encode_utf16 cs))

pub units-begun : (text : List ℕ) → IsUtf8 text → length (units_of text) ≡ sum_by units_begun text
unfolding units_of
units-begun text (cs, (scalar, is)) = rw (← is, chars-encodes cs scalar) (sym (units_of_chars cs))
