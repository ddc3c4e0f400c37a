-- A refusal names an offset among the bytes or at their end.
use Rattle.std.proofs.Common.{◌≡◌, ℕ, ◌+◌, ◌-◌, ◌≤◌, Bool, true, false, cond, ltb, ◌&&◌, ◌||◌, ◌⊎◌, List, [], ◌∷◌, length, take, drop, Result, Ok, Err, refl, arith, inl, inr}
use Rattle.std.specs.Prelude.{nat_le, ◌==◌}
use Rattle.std.specs.Int.{w32, from_be_bytes}
use Rattle.std.proofs.lemmas.Bool.{ltb-false}
use Rattle.std.proofs.lemmas.List.{length-take, length-drop}
use Rattle.tab_codec.specs.declared.frames.Frame.{Frame}
use Rattle.tab_codec.specs.Reading.{Read, body_at, whole_body, frame_at}

pub chosen : {A : Type 0} (b : Bool) (x y z : A) → cond b x y ≡ z → ((b ≡ true) × (x ≡ z)) ⊎ ((b ≡ false) × (y ≡ z))
chosen true x y z e = inl (refl, e)
chosen false x y z e = inr (refl, e)

abbrev pub refused : ℕ → Result (Frame × ℕ) ℕ
refused at = Err at

at_is : (n at : ℕ) → refused n ≡ refused at → n ≡ at
at_is n at e = cc

body_within : (size : ℕ) (bytes : List ℕ) (read : Read Frame) (at : ℕ) → whole_body size bytes read ≡ refused at → at ≤ 5 + length bytes
body_within size bytes (Err left) at e = let h = at_is (5 + (length bytes - left)) at e in omega arith
body_within size bytes (Ok x) at e =
    elim (chosen (length x.1 == 0 && length bytes == size) (Ok (x.0, 5 + size)) (refused (5 + (length bytes - length x.1))) (refused at) e) [
      | inl h ↦ absurd cc
      | inr h ↦ let k = at_is (5 + (length bytes - length x.1)) at h.1 in omega arith
    ]

pub neither : (a b : Bool) → (a || b) ≡ false → a ≡ false
neither false b e = refl
neither true b e = absurd cc

pub refused_within : (bytes : List ℕ) (at : ℕ) → frame_at bytes ≡ Err at → at ≤ length bytes
unfolding frame_at
refused_within [] at e = let h = at_is 0 at e in omega arith
refused_within (k ∷ bytes) at e =
    let size = from_be_bytes w32 (take 4 bytes) in
    let inside = take size (drop 4 bytes) in
    let short = ltb (length bytes) 4 || ltb 268_435_456 size in
    elim (chosen (nat_le 1 k && nat_le k 9) (cond short (refused 1) (whole_body size inside (body_at k inside))) (refused 0) (refused at) e) [
      | inl h ↦ elim (chosen short (refused 1) (whole_body size inside (body_at k inside)) (refused at) h.1) [
        | inl s ↦ let one = at_is 1 at s.1 in omega arith
        | inr s ↦
            let long : 4 ≤ length bytes = ltb-false _ _ (neither (ltb (length bytes) 4) (ltb 268_435_456 size) s.0) in
            let w = body_within size inside (body_at k inside) at s.1 in
            omega (arith, length-take size (drop 4 bytes), length-drop 4 bytes)
      ]
      | inr h ↦ let zero_is = at_is 0 at h.1 in omega arith
    ]
