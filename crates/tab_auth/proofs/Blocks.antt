-- The masked block of a key.
use Rattle.std.proofs.Common.{◌≡◌, ℕ, zero, suc, ◌-◌, List, ◌++◌, ◌∷◌, length, replicate, take, drop, bit_xor, arith, refl, sym, ap, ◌∙◌}
use Rattle.std.proofs.lemmas.List.{map-append, drop-replicate, take_all, length-replicate}
use Rattle.tab_auth.specs.Digests.{padded_key, masked}

-- masked zeros are the mask
masked_zeros : (mask count : ℕ) → masked mask (replicate count 0) ≡ replicate count mask
masked_zeros mask zero = refl
masked_zeros mask (suc count) = ap (λ (rest : List ℕ). mask ∷ rest) (masked_zeros mask count)

all_masks : (mask count : ℕ) → take count (replicate count mask) ≡ replicate count mask
all_masks mask count = take_all count (replicate count mask) (omega (arith, length-replicate count mask))

-- behind the masked key, the mask stands up to the end of the block
pub masked_block : (mask : ℕ) (key : List ℕ) → masked mask (padded_key key) ≡ masked mask key ++ take (64 - length key) (drop (length key) (replicate 64 mask))
masked_block mask key =
    let left : drop (length key) (replicate 64 mask) ≡ replicate (64 - length key) mask = drop-replicate (length key) 64 mask in
    map-append (λ (byte : ℕ). bit_xor byte mask) key (replicate (64 - length key) 0)
    ∙ ap (λ (rest : List ℕ). masked mask key ++ rest) (masked_zeros mask (64 - length key) ∙ sym (ap (take (64 - length key)) left ∙ all_masks mask (64 - length key)))
