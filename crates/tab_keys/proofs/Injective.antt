-- Two texts with the same code units are one text.
use Rattle.std.proofs.Common.{◌≡◌, ℕ, ◌+◌, ◌-◌, ◌/◌, ◌<◌, ◌≤◌, List, [], ◌∷◌, ◌++◌, true, ◌⊎◌, get_or, ap, sym, ◌∙◌, refl, arith, inl, inr}
use Rattle.std.specs.List.{flat_map}
use Rattle.std.specs.Str.{IsUtf8, chars}
use Rattle.std.specs.Char.Escape.{encode_utf16}
use Rattle.std.proofs.Math.Utf8.{scalar, scalars, scalar_cases, encodes}
use Rattle.std.proofs.str.Utf16.{one_unit, two_units}
use Rattle.std.proofs.lemmas.Bool.{cases_lt, and_parts}
use Rattle.std.proofs.lemmas.Str.{encodes-chars, scalars-chars}
use Rattle.tab_keys.specs.KeyTexts.{units_of}

-- the first two elements of two equal lists, and what follows them
heads : (a b : ℕ) (x y : List ℕ) → a ∷ x ≡ b ∷ y → (a ≡ b) × (x ≡ y)
heads a b x y e = (cc, cc)

two_heads : (a b c d : ℕ) (x y : List ℕ) → a ∷ b ∷ x ≡ c ∷ d ∷ y → (a ≡ c) × (b ≡ d) × (x ≡ y)
two_heads a b c d x y e = (cc, cc, cc)

one_one : (c d : ℕ) (x y : List ℕ) → c < 0x1_0000 → d < 0x1_0000 → encode_utf16 c ++ x ≡ encode_utf16 d ++ y → (c ≡ d) × (x ≡ y)
one_one c d x y h k e = heads c d x y (ap (λ (l : List ℕ). l ++ x) (sym (one_unit c h)) ∙ e ∙ ap (λ (l : List ℕ). l ++ y) (one_unit d k))

below : (c : ℕ) → (c < 0xD800) ⊎ ((0xE000 ≤ c) × (c < 0x11_0000)) → c < 0x11_0000
below c (inl h) = omega arith
below c (inr h) = h.1

-- the first unit of a character beyond the first plane is a surrogate, which is no character
one_two : (c d : ℕ) (x y : List ℕ) → (c < 0xD800) ⊎ ((0xE000 ≤ c) × (c < 0x11_0000)) → c < 0x1_0000 → 0x1_0000 ≤ d → d < 0x11_0000 → encode_utf16 c ++ x ≡ encode_utf16 d ++ y → (c ≡ d) × (x ≡ y)
one_two c d x y s h low high e =
    let units = ap (λ (l : List ℕ). l ++ x) (sym (one_unit c h)) ∙ e ∙ ap (λ (l : List ℕ). l ++ y) (two_units d low) in
    let first : c ≡ 0xD800 + (d - 0x1_0000) / 0x400 = ap (λ (l : List ℕ). get_or l 0 0) units in
    absurd (omega arith)

two_two : (c d : ℕ) (x y : List ℕ) → 0x1_0000 ≤ c → 0x1_0000 ≤ d → encode_utf16 c ++ x ≡ encode_utf16 d ++ y → (c ≡ d) × (x ≡ y)
two_two c d x y h k e =
    let parts = two_heads _ _ _ _ x y (ap (λ (l : List ℕ). l ++ x) (sym (two_units c h)) ∙ e ∙ ap (λ (l : List ℕ). l ++ y) (two_units d k)) in
    (omega (arith, parts.0, parts.1), parts.2)

-- the characters that two lists of units begin with, and what follows their units
first_char : (c d : ℕ) (x y : List ℕ) → scalar c ≡ true → scalar d ≡ true → encode_utf16 c ++ x ≡ encode_utf16 d ++ y → (c ≡ d) × (x ≡ y)
first_char c d x y s t e = by_planes (cases_lt c 0x1_0000) (cases_lt d 0x1_0000)
  where
    by_planes : (c < 0x1_0000) ⊎ (0x1_0000 ≤ c) → (d < 0x1_0000) ⊎ (0x1_0000 ≤ d) → (c ≡ d) × (x ≡ y)
    by_planes (inl h) (inl k) = one_one c d x y h k e
    by_planes (inl h) (inr k) = one_two c d x y (scalar_cases c s) h k (below d (scalar_cases d t)) e
    by_planes (inr h) (inl k) =
        let same = one_two d c y x (scalar_cases d t) k h (below c (scalar_cases c s)) (sym e) in
        (sym same.0, sym same.1)
    by_planes (inr h) (inr k) = two_two c d x y h k e

units_begin : (c : ℕ) (x : List ℕ) → encode_utf16 c ++ x ≡ [] → ⊥
units_begin c x e = nonempty (cases_lt c 0x1_0000)
  where
    nonempty : (c < 0x1_0000) ⊎ (0x1_0000 ≤ c) → ⊥
    nonempty (inl h) =
        let f : c ∷ x ≡ [] = ap (λ (l : List ℕ). l ++ x) (sym (one_unit c h)) ∙ e in
        cc
    nonempty (inr h) =
        let f = ap (λ (l : List ℕ). l ++ x) (sym (two_units c h)) ∙ e in
        cc

same_chars : (cs ds : List ℕ) → scalars cs ≡ true → scalars ds ≡ true → flat_map encode_utf16 cs ≡ flat_map encode_utf16 ds → cs ≡ ds
same_chars [] [] s t e = refl
same_chars [] (d ∷ ds) s t e = absurd (units_begin d (flat_map encode_utf16 ds) (sym e))
same_chars (c ∷ cs) [] s t e = absurd (units_begin c (flat_map encode_utf16 cs) e)
same_chars (c ∷ cs) (d ∷ ds) s t e =
    let u = and_parts _ _ s in
    let v = and_parts _ _ t in
    let parts = first_char c d (flat_map encode_utf16 cs) (flat_map encode_utf16 ds) u.0 v.0 e in
    let rest = same_chars cs ds u.1 v.1 parts.1 in
    let first = parts.0 in
    cc

pub units_of_injective : (a b : List ℕ) → IsUtf8 a → IsUtf8 b → units_of a ≡ units_of b → a ≡ b
unfolding units_of
units_of_injective a b u v e =
    let same = same_chars (chars a) (chars b) (scalars-chars a u) (scalars-chars b v) e in
    sym (encodes-chars a u) ∙ ap encodes same ∙ encodes-chars b v
