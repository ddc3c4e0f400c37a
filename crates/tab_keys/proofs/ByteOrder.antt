-- The ranked bytes of two texts compare as the texts' code units do.
use Rattle.std.proofs.Common.{◌≡◌, ℕ, ◌+◌, ◌-◌, ◌/◌, ◌%◌, ◌<◌, ◌≤◌, List, [], ◌∷◌, ◌++◌, length, map, true, Ordering, ◌⊎◌, inl, inr, ap, sym, ◌∙◌, refl, arith}
use Rattle.std.specs.declared.cmp.Ordering.TheVariants.{Less, Equal, Greater}
use Rattle.std.specs.Cmp.{nat_cmp_is}
use Rattle.std.specs.Cmp.Lexicographic.{slice_cmp}
use Rattle.std.specs.List.{flat_map}
use Rattle.std.specs.Ordering.{nat_cmp, ordering_then, ordering_reverse}
use Rattle.std.specs.Str.{IsUtf8, chars}
use Rattle.std.specs.Char.Escape.{encode_utf16}
use Rattle.std.proofs.Math.Utf8.{scalar, scalars, scalar_cases, encode, encodes}
use Rattle.std.proofs.str.Utf16.{one_unit, two_units}
use Rattle.std.proofs.lemmas.Bool.{cases_lt, cases_order, and_parts, lt-ltb, le-ltb}
use Rattle.std.proofs.lemmas.Cmp.{nat_list_cmp_total}
use Rattle.std.proofs.lemmas.List.{map-append, length-append, length-map}
use Rattle.std.proofs.lemmas.Str.{length-encode, len_utf8_bounds, scalars-chars, encodes-chars}
use Rattle.tab_keys.specs.KeyTexts.{units_of}
use Rattle.tab_keys.specs.Order.{byte_rank, text_cmp}

-- ---- where one list of numbers comes before another

abbrev Before : List ℕ → List ℕ → Type 0
Before xs ys = slice_cmp nat_cmp xs ys ≡ Less

by_head : (a b : ℕ) (xs ys : List ℕ) → a < b → Before (a ∷ xs) (b ∷ ys)
by_head a b xs ys h = ap (λ (r : Ordering). ordering_then r (slice_cmp nat_cmp xs ys)) (sym (nat_cmp_is a b Less h))

same_head : (a b : ℕ) (xs ys : List ℕ) → a ≡ b → slice_cmp nat_cmp (a ∷ xs) (b ∷ ys) ≡ slice_cmp nat_cmp xs ys
same_head a b xs ys e = ap (λ (r : Ordering). ordering_then r (slice_cmp nat_cmp xs ys)) (sym (nat_cmp_is a b Equal e))

by_tail : (a b : ℕ) (xs ys : List ℕ) → a ≡ b → Before xs ys → Before (a ∷ xs) (b ∷ ys)
by_tail a b xs ys e h = same_head a b xs ys e ∙ h

same_front : (front xs ys : List ℕ) → slice_cmp nat_cmp (front ++ xs) (front ++ ys) ≡ slice_cmp nat_cmp xs ys
same_front [] xs ys = refl
same_front (a ∷ front) xs ys = same_head a a (front ++ xs) (front ++ ys) refl ∙ same_front front xs ys

-- ---- where one character comes before another in units: two of the first plane, or of the others, by their numbers,
-- and one of the others before those from U+E000 on and after the rest

abbrev pub Precedes : ℕ → ℕ → Type 0
Precedes c d = ((c < d) × (d < 0x1_0000)) ⊎ (((c < d) × (0x1_0000 ≤ d) × ((c < 0xD800) ⊎ (0x1_0000 ≤ c))) ⊎ ((0xE000 ≤ d) × (d < 0x1_0000) × (0x1_0000 ≤ c)))

abbrev InRange : ℕ → Type 0
InRange c = (c < 0xD800) ⊎ ((0xE000 ≤ c) × (c < 0x11_0000))

abbrev first_unit : ℕ → ℕ
first_unit c = 0xD800 + (c - 0x1_0000) / 0x400

abbrev second_unit : ℕ → ℕ
second_unit c = 0xDC00 + (c - 0x1_0000) % 0x400

pair_before : (c d : ℕ) (x y : List ℕ) → 0x1_0000 ≤ c → c < d → Before (first_unit c ∷ second_unit c ∷ x) (first_unit d ∷ second_unit d ∷ y)
pair_before c d x y far h = by_first (cases_lt (first_unit c) (first_unit d))
  where
    by_first : (first_unit c < first_unit d) ⊎ (first_unit d ≤ first_unit c) → Before (first_unit c ∷ second_unit c ∷ x) (first_unit d ∷ second_unit d ∷ y)
    by_first (inl less) = by_head (first_unit c) (first_unit d) (second_unit c ∷ x) (second_unit d ∷ y) less
    by_first (inr more) =
        by_tail (first_unit c) (first_unit d) (second_unit c ∷ x) (second_unit d ∷ y) (omega arith) (by_head (second_unit c) (second_unit d) x y (omega arith))

unit_before : (c d : ℕ) (x y : List ℕ) → InRange c → InRange d → Precedes c d → Before (encode_utf16 c ++ x) (encode_utf16 d ++ y)
unit_before c d x y s t (inl h) =
    let low : c < 0x1_0000 = omega arith in
    rw (one_unit c low, one_unit d h.1) (by_head c d x y h.0)
unit_before c d x y s t (inr (inl h)) = by_plane h.2
  where
    by_plane : (c < 0xD800) ⊎ (0x1_0000 ≤ c) → Before (encode_utf16 c ++ x) (encode_utf16 d ++ y)
    by_plane (inl low) =
        let near : c < 0x1_0000 = omega arith in
        rw (one_unit c near, two_units d h.1) (by_head c (first_unit d) x (second_unit d ∷ y) (omega arith))
    by_plane (inr far) = rw (two_units c far, two_units d h.1) (pair_before c d x y far h.0)
unit_before c d x y s t (inr (inr h)) = rw (two_units c h.2, one_unit d h.1) (by_head (first_unit c) d (second_unit c ∷ x) y (first s))
  where
    first : InRange c → first_unit c < d
    first (inl r) = omega arith
    first (inr r) = omega arith

-- ---- the ranked bytes of a character

abbrev ranked : ℕ → List ℕ
ranked c = map byte_rank (encode c)

abbrev next : ℕ → ℕ
next bits = 128 + bits % 64

rank_low : (b : ℕ) → b < 0xEE → byte_rank b ≡ b
rank_low b h = rw (lt-ltb b 0xEE h) refl

rank_far : (b : ℕ) → 0xF0 ≤ b → byte_rank b ≡ b - 2
rank_far b h =
    let low : 0xEE ≤ b = omega arith in
    rw (le-ltb b 0xEE low, le-ltb b 0xF0 h) refl

rank_high : (b : ℕ) → 0xEE ≤ b → b < 0xF0 → byte_rank b ≡ b + 16
rank_high b h k = rw (le-ltb b 0xEE h, lt-ltb b 0xF0 k) refl

rank_next : (bits : ℕ) → byte_rank (next bits) ≡ next bits
rank_next bits = rank_low (next bits) (omega arith)

-- what the first of three bytes becomes
abbrev lead : ℕ → ℕ
lead c = byte_rank (224 + c / 4096)

lead_low : (c : ℕ) → c < 0xE000 → lead c ≡ 224 + c / 4096
lead_low c h = rank_low (224 + c / 4096) (omega arith)

lead_high : (c : ℕ) → 0xE000 ≤ c → c < 0x1_0000 → lead c ≡ 240 + c / 4096
lead_high c h k = rank_high (224 + c / 4096) (omega arith) (omega arith) ∙ omega arith

lead_least : (c : ℕ) → c < 0x1_0000 → 224 ≤ lead c
lead_least c h = by_plane (cases_lt c 0xE000)
  where
    by_plane : (c < 0xE000) ⊎ (0xE000 ≤ c) → 224 ≤ lead c
    by_plane (inl low) = omega (arith, lead_low c low)
    by_plane (inr high) = omega (arith, lead_high c high h)

lead_less : (c d : ℕ) → c / 4096 < d / 4096 → d < 0x1_0000 → lead c < lead d
lead_less c d h k = by_planes (cases_lt c 0xE000) (cases_lt d 0xE000)
  where
    by_planes : (c < 0xE000) ⊎ (0xE000 ≤ c) → (d < 0xE000) ⊎ (0xE000 ≤ d) → lead c < lead d
    by_planes (inl low) (inl near) = omega (arith, lead_low c low, lead_low d near)
    by_planes (inl low) (inr far) = omega (arith, lead_low c low, lead_high d far k)
    by_planes (inr high) (inl near) = absurd (omega arith)
    by_planes (inr high) (inr far) =
        let near : c < 0x1_0000 = omega arith in
        omega (arith, lead_high c high near, lead_high d far k)

ranked_1 : (c : ℕ) → c < 128 → ranked c ≡ c ∷ []
unfolding encode
ranked_1 c h =
    let low : c < 0xEE = omega arith in
    rw (lt-ltb c 128 h) (ap (λ (b : ℕ). b ∷ []) (rank_low c low))

ranked_2 : (c : ℕ) → 128 ≤ c → c < 2048 → ranked c ≡ (192 + c / 64) ∷ next c ∷ []
unfolding encode
ranked_2 c h k =
    rw (le-ltb c 128 h, lt-ltb c 2048 k) (λ i. rank_low (192 + c / 64) (omega arith) i ∷ rank_next c i ∷ [])

ranked_3 : (c : ℕ) → 2048 ≤ c → c < 0x1_0000 → ranked c ≡ lead c ∷ next (c / 64) ∷ next c ∷ []
unfolding encode
ranked_3 c h k =
    let more : 128 ≤ c = omega arith in
    rw (le-ltb c 128 more, le-ltb c 2048 h, lt-ltb c 0x1_0000 k) (λ i. lead c ∷ rank_next (c / 64) i ∷ rank_next c i ∷ [])

ranked_4 : (c : ℕ) → 0x1_0000 ≤ c → ranked c ≡ (238 + c / 262144) ∷ next (c / 4096) ∷ next (c / 64) ∷ next c ∷ []
unfolding encode
ranked_4 c h =
    let more : 128 ≤ c = omega arith in
    let most : 2048 ≤ c = omega arith in
    let far : byte_rank (240 + c / 262144) ≡ 238 + c / 262144 = rank_far (240 + c / 262144) (omega arith) ∙ omega arith in
    rw (le-ltb c 128 more, le-ltb c 2048 most, le-ltb c 0x1_0000 h) (λ i. far i ∷ rank_next (c / 4096) i ∷ rank_next (c / 64) i ∷ rank_next c i ∷ [])

-- ---- the bytes behind the first, of two characters whose higher bits are the same

last_before : (c d : ℕ) (x y : List ℕ) → c < d → c / 64 ≡ d / 64 → Before (next c ∷ x) (next d ∷ y)
last_before c d x y h e = by_head (next c) (next d) x y (omega arith)

last_two_before : (c d : ℕ) (x y : List ℕ) → c < d → c / 4096 ≡ d / 4096 → Before (next (c / 64) ∷ next c ∷ x) (next (d / 64) ∷ next d ∷ y)
last_two_before c d x y h e = by_first (cases_lt (c / 64) (d / 64))
  where
    by_first : (c / 64 < d / 64) ⊎ (d / 64 ≤ c / 64) → Before (next (c / 64) ∷ next c ∷ x) (next (d / 64) ∷ next d ∷ y)
    by_first (inl less) = by_head (next (c / 64)) (next (d / 64)) (next c ∷ x) (next d ∷ y) (omega arith)
    by_first (inr more) =
        let same : c / 64 ≡ d / 64 = omega arith in
        by_tail (next (c / 64)) (next (d / 64)) (next c ∷ x) (next d ∷ y) (ap next same) (last_before c d x y h same)

last_three_before : (c d : ℕ) (x y : List ℕ) → c < d → c / 262144 ≡ d / 262144
    → Before (next (c / 4096) ∷ next (c / 64) ∷ next c ∷ x) (next (d / 4096) ∷ next (d / 64) ∷ next d ∷ y)
last_three_before c d x y h e = by_first (cases_lt (c / 4096) (d / 4096))
  where
    by_first : (c / 4096 < d / 4096) ⊎ (d / 4096 ≤ c / 4096) → Before (next (c / 4096) ∷ next (c / 64) ∷ next c ∷ x) (next (d / 4096) ∷ next (d / 64) ∷ next d ∷ y)
    by_first (inl less) = by_head (next (c / 4096)) (next (d / 4096)) (next (c / 64) ∷ next c ∷ x) (next (d / 64) ∷ next d ∷ y) (omega arith)
    by_first (inr more) =
        let same : c / 4096 ≡ d / 4096 = omega arith in
        by_tail (next (c / 4096)) (next (d / 4096)) (next (c / 64) ∷ next c ∷ x) (next (d / 64) ∷ next d ∷ y) (ap next same) (last_two_before c d x y h same)

-- ---- two characters of as many bytes

two_before : (c d : ℕ) (x y : List ℕ) → c < d → Before ((192 + c / 64) ∷ next c ∷ x) ((192 + d / 64) ∷ next d ∷ y)
two_before c d x y h = by_first (cases_lt (c / 64) (d / 64))
  where
    by_first : (c / 64 < d / 64) ⊎ (d / 64 ≤ c / 64) → Before ((192 + c / 64) ∷ next c ∷ x) ((192 + d / 64) ∷ next d ∷ y)
    by_first (inl less) = by_head (192 + c / 64) (192 + d / 64) (next c ∷ x) (next d ∷ y) (omega arith)
    by_first (inr more) =
        let same : c / 64 ≡ d / 64 = omega arith in
        by_tail (192 + c / 64) (192 + d / 64) (next c ∷ x) (next d ∷ y) (omega arith) (last_before c d x y h same)

three_before : (c d : ℕ) (x y : List ℕ) → c < d → d < 0x1_0000 → Before (lead c ∷ next (c / 64) ∷ next c ∷ x) (lead d ∷ next (d / 64) ∷ next d ∷ y)
three_before c d x y h k = by_first (cases_lt (c / 4096) (d / 4096))
  where
    by_first : (c / 4096 < d / 4096) ⊎ (d / 4096 ≤ c / 4096) → Before (lead c ∷ next (c / 64) ∷ next c ∷ x) (lead d ∷ next (d / 64) ∷ next d ∷ y)
    by_first (inl less) = by_head (lead c) (lead d) (next (c / 64) ∷ next c ∷ x) (next (d / 64) ∷ next d ∷ y) (lead_less c d less k)
    by_first (inr more) =
        let same : c / 4096 ≡ d / 4096 = omega arith in
        by_tail (lead c) (lead d) (next (c / 64) ∷ next c ∷ x) (next (d / 64) ∷ next d ∷ y) (ap (λ (q : ℕ). byte_rank (224 + q)) same) (last_two_before c d x y h same)

four_before : (c d : ℕ) (x y : List ℕ) → c < d
    → Before ((238 + c / 262144) ∷ next (c / 4096) ∷ next (c / 64) ∷ next c ∷ x) ((238 + d / 262144) ∷ next (d / 4096) ∷ next (d / 64) ∷ next d ∷ y)
four_before c d x y h = by_first (cases_lt (c / 262144) (d / 262144))
  where
    by_first : (c / 262144 < d / 262144) ⊎ (d / 262144 ≤ c / 262144)
        → Before ((238 + c / 262144) ∷ next (c / 4096) ∷ next (c / 64) ∷ next c ∷ x) ((238 + d / 262144) ∷ next (d / 4096) ∷ next (d / 64) ∷ next d ∷ y)
    by_first (inl less) =
        by_head (238 + c / 262144) (238 + d / 262144) (next (c / 4096) ∷ next (c / 64) ∷ next c ∷ x) (next (d / 4096) ∷ next (d / 64) ∷ next d ∷ y) (omega arith)
    by_first (inr more) =
        let same : c / 262144 ≡ d / 262144 = omega arith in
        by_tail (238 + c / 262144) (238 + d / 262144) (next (c / 4096) ∷ next (c / 64) ∷ next c ∷ x) (next (d / 4096) ∷ next (d / 64) ∷ next d ∷ y)
        (omega arith) (last_three_before c d x y h same)

-- ---- any two characters

near_before : (c d : ℕ) (x y : List ℕ) → c < d → d < 0x1_0000 → Before (ranked c ++ x) (ranked d ++ y)
near_before c d x y h k = by_lengths (cases_lt d 128) (cases_lt d 2048) (cases_lt c 128) (cases_lt c 2048)
  where
    by_lengths : (d < 128) ⊎ (128 ≤ d) → (d < 2048) ⊎ (2048 ≤ d) → (c < 128) ⊎ (128 ≤ c) → (c < 2048) ⊎ (2048 ≤ c) → Before (ranked c ++ x) (ranked d ++ y)
    by_lengths (inl d1) _ (inl c1) _ = rw (ranked_1 c c1, ranked_1 d d1) (by_head c d x y h)
    by_lengths (inl d1) _ (inr c1) _ = absurd (omega arith)
    by_lengths (inr d1) (inl d2) (inl c1) _ = rw (ranked_1 c c1, ranked_2 d d1 d2) (by_head c (192 + d / 64) x (next d ∷ y) (omega arith))
    by_lengths (inr d1) (inl d2) (inr c1) (inl c2) = rw (ranked_2 c c1 c2, ranked_2 d d1 d2) (two_before c d x y h)
    by_lengths (inr d1) (inl d2) (inr c1) (inr c2) = absurd (omega arith)
    by_lengths (inr d1) (inr d2) (inl c1) _ = rw (ranked_1 c c1, ranked_3 d d2 k) (by_head c (lead d) x (next (d / 64) ∷ next d ∷ y) (omega (arith, lead_least d k)))
    by_lengths (inr d1) (inr d2) (inr c1) (inl c2) =
        rw (ranked_2 c c1 c2, ranked_3 d d2 k) (by_head (192 + c / 64) (lead d) (next c ∷ x) (next (d / 64) ∷ next d ∷ y) (omega (arith, lead_least d k)))
    by_lengths (inr d1) (inr d2) (inr c1) (inr c2) =
        let near : c < 0x1_0000 = omega arith in
        rw (ranked_3 c c2 near, ranked_3 d d2 k) (three_before c d x y h k)

far_before : (c d : ℕ) (x y : List ℕ) → c < 0xD800 → 0x1_0000 ≤ d → Before (ranked c ++ x) (ranked d ++ y)
far_before c d x y h k = by_length (cases_lt c 128) (cases_lt c 2048)
  where
    by_length : (c < 128) ⊎ (128 ≤ c) → (c < 2048) ⊎ (2048 ≤ c) → Before (ranked c ++ x) (ranked d ++ y)
    by_length (inl c1) _ = rw (ranked_1 c c1, ranked_4 d k) (by_head c (238 + d / 262144) x (next (d / 4096) ∷ next (d / 64) ∷ next d ∷ y) (omega arith))
    by_length (inr c1) (inl c2) = rw (ranked_2 c c1 c2, ranked_4 d k) (by_head (192 + c / 64) (238 + d / 262144) (next c ∷ x) (next (d / 4096) ∷ next (d / 64) ∷ next d ∷ y) (omega arith))
    by_length (inr c1) (inr c2) =
        let near : c < 0x1_0000 = omega arith in
        let low : c < 0xE000 = omega arith in
        rw (ranked_3 c c2 near, ranked_4 d k) (by_head (lead c) (238 + d / 262144) (next (c / 64) ∷ next c ∷ x) (next (d / 4096) ∷ next (d / 64) ∷ next d ∷ y) (omega (arith, lead_low c low)))

byte_before : (c d : ℕ) (x y : List ℕ) → InRange c → InRange d → Precedes c d → Before (ranked c ++ x) (ranked d ++ y)
byte_before c d x y s t (inl h) = near_before c d x y h.0 h.1
byte_before c d x y s t (inr (inl h)) = by_plane h.2
  where
    by_plane : (c < 0xD800) ⊎ (0x1_0000 ≤ c) → Before (ranked c ++ x) (ranked d ++ y)
    by_plane (inl low) = far_before c d x y low h.1
    by_plane (inr far) = rw (ranked_4 c far, ranked_4 d h.1) (four_before c d x y h.0)
byte_before c d x y s t (inr (inr h)) = by_range s
  where
    most : 2048 ≤ d
    most = omega arith

    by_range : InRange c → Before (ranked c ++ x) (ranked d ++ y)
    by_range (inl r) = absurd (omega arith)
    by_range (inr r) =
        rw (ranked_4 c h.2, ranked_3 d most h.1) (by_head (238 + c / 262144) (lead d) (next (c / 4096) ∷ next (c / 64) ∷ next c ∷ x) (next (d / 64) ∷ next d ∷ y) (omega (arith, lead_high d h.0 h.1)))

-- ---- texts

-- of two characters one precedes the other, or they are one
order_of : (c d : ℕ) → InRange c → InRange d → (c ≡ d) ⊎ (Precedes c d ⊎ Precedes d c)
order_of c d s t = by_order (cases_order c d)
  where
    below : (a b : ℕ) → InRange a → InRange b → a < b → Precedes a b ⊎ Precedes b a
    below a b r (inl q) h = inl (inl (h, omega arith))
    below a b (inl r) (inr q) h = inl (by_plane (cases_lt b 0x1_0000))
      where
        by_plane : (b < 0x1_0000) ⊎ (0x1_0000 ≤ b) → Precedes a b
        by_plane (inl near) = inl (h, near)
        by_plane (inr far) = inr (inl (h, far, inl r))
    below a b (inr r) (inr q) h = by_planes (cases_lt a 0x1_0000) (cases_lt b 0x1_0000)
      where
        by_planes : (a < 0x1_0000) ⊎ (0x1_0000 ≤ a) → (b < 0x1_0000) ⊎ (0x1_0000 ≤ b) → Precedes a b ⊎ Precedes b a
        by_planes _ (inl near) = inl (inl (h, near))
        by_planes (inl low) (inr far) = inr (inr (inr (r.0, low, far)))
        by_planes (inr high) (inr far) = inl (inr (inl (h, far, inr high)))

    turned : (a b : ℕ) → Precedes a b ⊎ Precedes b a → Precedes b a ⊎ Precedes a b
    turned a b (inl h) = inr h
    turned a b (inr h) = inl h

    by_order : (c ≡ d) ⊎ ((c < d) ⊎ (d < c)) → (c ≡ d) ⊎ (Precedes c d ⊎ Precedes d c)
    by_order (inl e) = inl e
    by_order (inr (inl h)) = inr (below c d s t h)
    by_order (inr (inr h)) = inr (turned d c (below d c t s h))

abbrev ranked_all : List ℕ → List ℕ
ranked_all cs = map byte_rank (encodes cs)

ranked_all-cons : (c : ℕ) (cs : List ℕ) → ranked_all (c ∷ cs) ≡ ranked c ++ ranked_all cs
ranked_all-cons c cs = map-append byte_rank (encode c) (encodes cs)

abbrev units_all : List ℕ → List ℕ
units_all cs = flat_map encode_utf16 cs

-- the greater of two lists comes behind the lesser
turned_Less : (xs ys : List ℕ) → Before ys xs → slice_cmp nat_cmp xs ys ≡ Greater
turned_Less xs ys h = nat_list_cmp_total.antisymm xs ys ∙ ap ordering_reverse h

-- the empty list and one that is not empty
empty_first : (xs : List ℕ) → 0 < length xs → (slice_cmp nat_cmp [] xs ≡ Less) × (slice_cmp nat_cmp xs [] ≡ Greater)
empty_first [] h = absurd (omega arith)
empty_first (x ∷ xs) h = (refl, refl)

some_units : (c : ℕ) (x : List ℕ) → 0 < length (encode_utf16 c ++ x)
some_units c x = by_plane (cases_lt c 0x1_0000)
  where
    by_plane : (c < 0x1_0000) ⊎ (0x1_0000 ≤ c) → 0 < length (encode_utf16 c ++ x)
    by_plane (inl h) = rw (one_unit c h) (omega arith)
    by_plane (inr h) = rw (two_units c h) (omega arith)

some_bytes : (c : ℕ) (cs : List ℕ) → 0 < length (ranked_all (c ∷ cs))
some_bytes c cs = rw (ranked_all-cons c cs) (omega (arith, length-append (ranked c) (ranked_all cs), length-map (encode c) byte_rank, length-encode c, (len_utf8_bounds c).0))

-- two lists of characters compare by the first that differ, or by what follows one that they share
by_first_chars : (c d : ℕ) (cs ds : List ℕ) → InRange c → InRange d → slice_cmp nat_cmp (units_all cs) (units_all ds) ≡ slice_cmp nat_cmp (ranked_all cs) (ranked_all ds)
    → slice_cmp nat_cmp (encode_utf16 c ++ units_all cs) (encode_utf16 d ++ units_all ds) ≡ slice_cmp nat_cmp (ranked c ++ ranked_all cs) (ranked d ++ ranked_all ds)
by_first_chars c d cs ds u v rest = by_order (order_of c d u v)
  where
    by_order : (c ≡ d) ⊎ (Precedes c d ⊎ Precedes d c)
        → slice_cmp nat_cmp (encode_utf16 c ++ units_all cs) (encode_utf16 d ++ units_all ds) ≡ slice_cmp nat_cmp (ranked c ++ ranked_all cs) (ranked d ++ ranked_all ds)
    by_order (inl e) =
        ap (λ (k : ℕ). slice_cmp nat_cmp (encode_utf16 c ++ units_all cs) (encode_utf16 k ++ units_all ds)) (sym e)
        ∙ same_front (encode_utf16 c) (units_all cs) (units_all ds)
        ∙ rest
        ∙ sym (same_front (ranked c) (ranked_all cs) (ranked_all ds))
        ∙ ap (λ (k : ℕ). slice_cmp nat_cmp (ranked c ++ ranked_all cs) (ranked k ++ ranked_all ds)) e
    by_order (inr (inl h)) = unit_before c d (units_all cs) (units_all ds) u v h ∙ sym (byte_before c d (ranked_all cs) (ranked_all ds) u v h)
    by_order (inr (inr h)) =
        turned_Less (encode_utf16 c ++ units_all cs) (encode_utf16 d ++ units_all ds) (unit_before d c (units_all ds) (units_all cs) v u h)
        ∙ sym (turned_Less (ranked c ++ ranked_all cs) (ranked d ++ ranked_all ds) (byte_before d c (ranked_all ds) (ranked_all cs) v u h))

same_order : (cs ds : List ℕ) → scalars cs ≡ true → scalars ds ≡ true → slice_cmp nat_cmp (units_all cs) (units_all ds) ≡ slice_cmp nat_cmp (ranked_all cs) (ranked_all ds)
same_order [] [] s t = refl
same_order [] (d ∷ ds) s t = (empty_first (units_all (d ∷ ds)) (some_units d (units_all ds))).0 ∙ sym (empty_first (ranked_all (d ∷ ds)) (some_bytes d ds)).0
same_order (c ∷ cs) [] s t = (empty_first (units_all (c ∷ cs)) (some_units c (units_all cs))).1 ∙ sym (empty_first (ranked_all (c ∷ cs)) (some_bytes c cs)).1
same_order (c ∷ cs) (d ∷ ds) s t =
    let u = and_parts (scalar c) (scalars cs) s in
    let v = and_parts (scalar d) (scalars ds) t in
    rw (ranked_all-cons c cs, ranked_all-cons d ds) (by_first_chars c d cs ds (scalar_cases c u.0) (scalar_cases d v.0) (same_order cs ds u.1 v.1))

-- texts compare by their code units as by their ranked bytes
pub text_cmp-ranked : (a b : List ℕ) → IsUtf8 a → IsUtf8 b → text_cmp a b ≡ slice_cmp nat_cmp (map byte_rank a) (map byte_rank b)
unfolding text_cmp units_of
text_cmp-ranked a b u v =
    same_order (chars a) (chars b) (scalars-chars a u) (scalars-chars b v)
    ∙ ap (λ (bytes : List ℕ). slice_cmp nat_cmp (map byte_rank bytes) (ranked_all (chars b))) (encodes-chars a u)
    ∙ ap (λ (bytes : List ℕ). slice_cmp nat_cmp (map byte_rank a) (map byte_rank bytes)) (encodes-chars b v)
