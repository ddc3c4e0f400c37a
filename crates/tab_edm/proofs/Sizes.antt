-- The sizes of properties within the limits.
use Rattle.std.proofs.Common.{◌≡◌, ℕ, ◌*◌, ◌≤◌, List, [], ◌∷◌, length, Bool, true, false, cond, Some, None, refl, arith, length-append}
use Rattle.std.proofs.lemmas.Bool.{ltb-false}
use Rattle.std.proofs.lemmas.Bool.Decides.{nat_tests}
use Rattle.std.specs.List.{flat_map}
use Rattle.std.specs.Char.Escape.{encode_utf16}
use Rattle.std.specs.Str.{chars}
use Rattle.tab_edm.specs.Texts.{unit_count, char_count}
use Rattle.tab_edm.specs.Values.{is_small}
use Rattle.tab_edm.specs.Entities.{property_refusal}
use Rattle.tab_edm.specs.declared.values.Property.{Property}

-- of three tests that refuse in turn, none did
passed : {R : Type 0} (valid long small : Bool) (a b c : R) → cond valid (cond long (Some b) (cond small None (Some c))) (Some a) ≡ None → (long ≡ false) × (small ≡ true)
passed true true small a b c e = cc
passed true false true a b c e = (refl, refl)
passed true false false a b c e = cc
passed false long small a b c e = cc

-- a property that no test refuses has a short name and a small value
pub within_limits : (p : Property) → property_refusal p ≡ None → (char_count p.name ≤ 255) × (is_small p.value ≡ true)
unfolding property_refusal
within_limits p e =
    let h = passed _ _ _ _ _ _ e in
    (ltb-false _ _ h.0, h.1)

two_units_each : (cs : List ℕ) → length (flat_map encode_utf16 cs) ≤ 2 * length cs
two_units_each [] = omega arith
two_units_each (c ∷ cs) =
    let few : length (encode_utf16 c) ≤ 2 = grind (arith, nat_tests) in
    omega (arith, length-append (encode_utf16 c) (flat_map encode_utf16 cs), two_units_each cs)

-- no character has more than two units
pub units_at_most : (text : List ℕ) → unit_count text ≤ 2 * char_count text
unfolding unit_count char_count
units_at_most text = two_units_each (chars text)
