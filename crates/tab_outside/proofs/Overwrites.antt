-- What a write into bytes that were filled up with zeros leaves.
use Rattle.std.proofs.Common.{◌≡◌, ℕ, zero, suc, ◌+◌, ◌-◌, ◌<◌, ◌≤◌, List, [], ◌∷◌, ◌++◌, length, take, drop, replicate, refl, ap, ◌∙◌, arith}
use Rattle.std.proofs.Math.Nat.{sub-zero, zero-sub, sub_self}
use Rattle.std.proofs.lemmas.List.{append-nil, take-replicate, drop-replicate}
use Rattle.tab_outside.specs.Disks.{spliced, overwritten}

-- the front of two lists put together is a front of the first and then of the second
take_joined : (n : ℕ) (xs ys : List ℕ) → take n (xs ++ ys) ≡ take n xs ++ take (n - length xs) ys
take_joined zero xs ys = rw (zero-sub (length xs)) refl
take_joined (suc n) [] ys = rw (sub-zero (suc n)) refl
take_joined (suc n) (x ∷ xs) ys = let less : suc n - suc (length xs) ≡ n - length xs = omega arith in rw less (ap (λ (zs : List ℕ). x ∷ zs) (take_joined n xs ys))

-- and so is what follows such a front
drop_joined : (n : ℕ) (xs ys : List ℕ) → drop n (xs ++ ys) ≡ drop n xs ++ drop (n - length xs) ys
drop_joined zero xs ys = rw (zero-sub (length xs)) refl
drop_joined (suc n) [] ys = rw (sub-zero (suc n)) refl
drop_joined (suc n) (x ∷ xs) ys = let less : suc n - suc (length xs) ≡ n - length xs = omega arith in rw less (drop_joined n xs ys)

-- a piece put into bytes that were filled up with zeros to its end
pub spliced_when_grown : (bytes piece : List ℕ) (at : ℕ) (grown : List ℕ) → grown ≡ bytes ++ replicate (at + length piece - length bytes) 0
    → take at grown ++ piece ++ drop (at + length piece) grown ≡ spliced bytes at piece
spliced_when_grown bytes piece at grown filled =
    let end = at + length piece in
    let least : at - length bytes ≤ end - length bytes = omega arith in
    let front : take at grown ≡ take at bytes ++ replicate (at - length bytes) 0 = ap (take at) filled ∙ take_joined at bytes _ ∙ ap (λ (zs : List ℕ). take at bytes ++ zs) (take-replicate (at - length bytes) (end - length bytes) 0 least) in
    let none : drop (end - length bytes) (replicate (end - length bytes) 0) ≡ [] = drop-replicate (end - length bytes) (end - length bytes) 0 ∙ ap (λ (n : ℕ). replicate n 0) (sub_self (end - length bytes)) in
    let back : drop end grown ≡ drop end bytes = ap (drop end) filled ∙ drop_joined end bytes _ ∙ ap (λ (zs : List ℕ). drop end bytes ++ zs) none ∙ append-nil _ in
    ap (λ (zs : List ℕ). zs ++ piece ++ drop end grown) front ∙ ap (λ (zs : List ℕ). take at bytes ++ replicate (at - length bytes) 0 ++ piece ++ zs) back

written_in_part : (bytes piece : List ℕ) (at : ℕ) → 0 < length piece → spliced bytes at piece ≡ overwritten bytes at piece
written_in_part bytes [] at some = absurd (let none : ⊥ = omega (arith, some) in none)
written_in_part bytes (byte ∷ rest) at some = refl

-- is the write
pub overwritten_when_grown : (bytes piece : List ℕ) (at : ℕ) (grown : List ℕ) → 0 < length piece → grown ≡ bytes ++ replicate (at + length piece - length bytes) 0
    → take at grown ++ piece ++ drop (at + length piece) grown ≡ overwritten bytes at piece
overwritten_when_grown bytes piece at grown some filled = spliced_when_grown bytes piece at grown filled ∙ written_in_part bytes piece at some
