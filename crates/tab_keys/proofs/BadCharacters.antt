-- Characters that no key has, found by their bytes.
use Rattle.std.proofs.Common.{◌≡◌, ℕ, ◌+◌, ◌/◌, ◌%◌, ◌<◌, ◌≤◌, Bool, false, ◌||◌, List, [], ◌∷◌, length, drop, inl, inr, refl, sym, ap, ◌∙◌, arith}
use Rattle.std.specs.Prelude.{chars}
use Rattle.std.specs.List.{list_any}
use Rattle.std.specs.Str.{IsUtf8}
use Rattle.std.proofs.Math.Utf8.{encode, encodes}
use Rattle.std.proofs.lemmas.Bool.{cases_lt, lt-ltb, le-ltb}
use Rattle.std.proofs.lemmas.Bool.Decides.{nat_tests}
use Rattle.std.proofs.lemmas.List.{drop_all}
use Rattle.std.proofs.Math.Bool.{or-false}
use Rattle.std.proofs.lemmas.Str.{chars-encodes}
use Rattle.tab_keys.specs.KeyTexts.{is_bad_character, ends_bad}

-- some byte ends one, the first behind this one
abbrev pub any_ends_bad : ℕ → List ℕ → Bool
any_ends_bad before [] = false
any_ends_bad before (b ∷ bs) = ends_bad before b || any_ends_bad b bs

encode_one : (c : ℕ) → c < 128 → encode c ≡ c ∷ []
unfolding encode
encode_one c h = rw (lt-ltb c 128 h) refl

encode_two : (c : ℕ) → 128 ≤ c → c < 2048 → encode c ≡ (192 + c / 64) ∷ (128 + c % 64) ∷ []
unfolding encode
encode_two c low h = rw (le-ltb c 128 low, lt-ltb c 2048 h) refl

encode_three : (c : ℕ) → 2048 ≤ c → c < 65536 → encode c ≡ (224 + c / 4096) ∷ (128 + c / 64 % 64) ∷ (128 + c % 64) ∷ []
unfolding encode
encode_three c low h =
    let above : 128 ≤ c = omega arith in
    rw (le-ltb c 128 above, le-ltb c 2048 low, lt-ltb c 65536 h) refl

encode_four : (c : ℕ) → 65536 ≤ c → encode c ≡ (240 + c / 262144) ∷ (128 + c / 4096 % 64) ∷ (128 + c / 64 % 64) ∷ (128 + c % 64) ∷ []
unfolding encode
encode_four c low =
    let above : 128 ≤ c = omega arith in
    let beyond : 2048 ≤ c = omega arith in
    rw (le-ltb c 128 above, le-ltb c 2048 beyond, le-ltb c 65536 low) refl

bad_one : (before c : ℕ) → c < 128 → ends_bad before c ≡ is_bad_character c
bad_one before c h = grind (arith, nat_tests)

bad_two : (c : ℕ) → 128 ≤ c → c < 2048 → ends_bad (192 + c / 64) (128 + c % 64) ≡ is_bad_character c
bad_two c low h = grind (arith, nat_tests)

bad_wide : (c : ℕ) → 2048 ≤ c → is_bad_character c ≡ false
bad_wide c h = grind (arith, nat_tests)

fine_lead : (before b : ℕ) → 192 ≤ b → ends_bad before b ≡ false
fine_lead before b h = grind (arith, nat_tests)

fine_second : (before b : ℕ) → 224 ≤ before → 128 ≤ b → ends_bad before b ≡ false
fine_second before b h k = grind (arith, nat_tests)

fine_inner : (before b : ℕ) → before < 192 → 128 ≤ b → ends_bad before b ≡ false
fine_inner before b h k = grind (arith, nat_tests)

bad_of_chars : (before : ℕ) (cs : List ℕ) → any_ends_bad before (encodes cs) ≡ list_any is_bad_character cs
bad_of_chars before [] = refl
bad_of_chars before (c ∷ cs) =
    elim (cases_lt c 128) [
      | inl low ↦ rw (encode_one c low, bad_one before c low, bad_of_chars c cs) refl
      | inr above ↦ elim (cases_lt c 2048) [
        | inl low ↦ rw (encode_two c above low, fine_lead before (192 + c / 64) (omega arith), bad_two c above low, bad_of_chars (128 + c % 64) cs) refl
        | inr beyond ↦ elim (cases_lt c 65536) [
          | inl low ↦ rw (
            encode_three c beyond low,
            fine_lead before (224 + c / 4096) (omega arith),
            fine_second (224 + c / 4096) (128 + c / 64 % 64) (omega arith) (omega arith),
            fine_inner (128 + c / 64 % 64) (128 + c % 64) (omega arith) (omega arith),
            bad_wide c beyond,
            bad_of_chars (128 + c % 64) cs,
          ) refl
          | inr far ↦ rw (
            encode_four c far,
            fine_lead before (240 + c / 262144) (omega arith),
            fine_second (240 + c / 262144) (128 + c / 4096 % 64) (omega arith) (omega arith),
            fine_inner (128 + c / 4096 % 64) (128 + c / 64 % 64) (omega arith) (omega arith),
            fine_inner (128 + c / 64 % 64) (128 + c % 64) (omega arith) (omega arith),
            bad_wide c beyond,
            bad_of_chars (128 + c % 64) cs,
          ) refl
        ]
      ]
    ]

pub bad-ended : (text : List ℕ) → IsUtf8 text → list_any is_bad_character (chars text) ≡ any_ends_bad 0 text
bad-ended text (cs, (scalar, is)) = rw (← is, chars-encodes cs scalar) (sym (bad_of_chars 0 cs))

-- where a pass over all bytes ends
pub bad_whole : (text items : List ℕ) (i before : ℕ) (bad : Bool) → items ≡ text → IsUtf8 text → length items ≤ i → any_ends_bad 0 items ≡ (bad || any_ends_bad before (drop i items)) → bad ≡ list_any is_bad_character (chars text)
bad_whole text items i before bad same utf8 end e =
    sym (bad-ended text utf8 ∙ ap (any_ends_bad 0) (sym same) ∙ e ∙ ap (λ (rest : List ℕ). bad || any_ends_bad before rest) (drop_all i items end) ∙ or-false bad)
