-- Bytes of which no bit differs.
use Rattle.std.proofs.Common.{◌≡◌, ◌↔◌, ℕ, ◌+◌, ◌<◌, ◌%◌, max, List, length, take, get_or, min, nat_eq, bytes_eq, bit_or, bit_xor, sym, ap, ◌∙◌, arith}
use Rattle.std.specs.Int.{bit_at}
use Rattle.std.proofs.lemmas.Nat.Bits.{bit_at-zero, bit_at_or, bit_at_xor, bit_at-lt, same_from_bits}
use Rattle.std.proofs.lemmas.List.{take_more, take-take, take_all, get_or-take}
use Rattle.std.proofs.lemmas.Slice.Eq.{bytes_eq-Decides}
use Rattle.std.proofs.lemmas.Bool.Decides.{same_from_decides, Decides-like, Decides-eqb}

same_bits : (m n : ℕ) → m < 2 → n < 2 → (m + n) % 2 ≡ 0 → m ≡ n
same_bits m n a b e = omega arith

no_bit : (n i : ℕ) → n ≡ 0 → bit_at n i ≡ 0
no_bit n i e = ap (λ (m : ℕ). bit_at m i) e ∙ bit_at-zero i

-- numbers whose exclusive or is 0 are equal
xor-zero : (a b : ℕ) → bit_xor a b ≡ 0 → a ≡ b
xor-zero a b e =
    same_from_bits a b (λ i. same_bits _ _ (bit_at-lt a i) (bit_at-lt b i) (sym (bit_at_xor a b i) ∙ no_bit (bit_xor a b) i e))

doubled : (n : ℕ) → (n + n) % 2 ≡ 0
doubled n = omega arith

xor-same : (a : ℕ) → bit_xor a a ≡ 0
xor-same a = same_from_bits _ _ (λ i. bit_at_xor a a i ∙ doubled (bit_at a i) ∙ sym (bit_at-zero i))

both_zero : (m n : ℕ) → max m n ≡ 0 → (m ≡ 0) × (n ≡ 0)
both_zero m n e = (omega arith, omega arith)

-- numbers whose or is 0 are both 0
or-zero : (a b : ℕ) → bit_or a b ≡ 0 → (a ≡ 0) × (b ≡ 0)
or-zero a b e =
    let bits = λ (i : ℕ). both_zero (bit_at a i) (bit_at b i) (sym (bit_at_or a b i) ∙ no_bit (bit_or a b) i e) in
    (same_from_bits _ _ (λ i. (bits i).0 ∙ sym (bit_at-zero i)), same_from_bits _ _ (λ i. (bits i).1 ∙ sym (bit_at-zero i)))

or_of_zeros : (a b : ℕ) → a ≡ 0 → b ≡ 0 → bit_or a b ≡ 0
or_of_zeros a b e f = ap (λ (n : ℕ). bit_or n b) e ∙ f

-- fronts of one element more are the same where the fronts and that element are
fronts_more : (xs ys : List ℕ) (n : ℕ) → n < length xs → n < length ys → take n xs ≡ take n ys → get_or xs n 0 ≡ get_or ys n 0 → take (n + 1) xs ≡ take (n + 1) ys
fronts_more xs ys n in_xs in_ys front next = take_more xs n 0 in_xs ∙ (cc) ∙ sym (take_more ys n 0 in_ys)

front_of_more : (xs ys : List ℕ) (n : ℕ) → take (n + 1) xs ≡ take (n + 1) ys → take n xs ≡ take n ys
front_of_more xs ys n e =
    sym (take-take n (n + 1) xs (omega arith)) ∙ ap (take n) e ∙ take-take n (n + 1) ys (omega arith)

next_of_more : (xs ys : List ℕ) (n : ℕ) → take (n + 1) xs ≡ take (n + 1) ys → get_or xs n 0 ≡ get_or ys n 0
next_of_more xs ys n e =
    sym (get_or-take (n + 1) xs n 0 (omega arith)) ∙ ap (λ (zs : List ℕ). get_or zs n 0) e ∙ get_or-take (n + 1) ys n 0 (omega arith)

difference_at : (xs ys : List ℕ) (n so_far : ℕ) → n < length xs → n < length ys → ((so_far ≡ 0) ↔ (take n xs ≡ take n ys)) → (bit_or so_far (bit_xor (get_or xs n 0) (get_or ys n 0)) ≡ 0) ↔ (take (n + 1) xs ≡ take (n + 1) ys)
difference_at xs ys n so_far in_xs in_ys before = (
  λ e. let none = or-zero so_far (bit_xor (get_or xs n 0) (get_or ys n 0)) e in
      fronts_more xs ys n in_xs in_ys (before.0 none.0) (xor-zero _ _ none.1),
  λ e. or_of_zeros _ _ (before.1 (front_of_more xs ys n e)) (ap (λ (b : ℕ). bit_xor (get_or xs n 0) b) (sym (next_of_more xs ys n e)) ∙ xor-same (get_or xs n 0)),
)

-- one byte more of two texts, with the bits in which they have differed so far
pub difference_more : (xs ys : List ℕ) (n more so_far x y : ℕ) → n < length xs → n < length ys → x ≡ get_or xs n 0 → y ≡ get_or ys n 0 → more ≡ n + 1 → ((so_far ≡ 0) ↔ (take n xs ≡ take n ys)) → (bit_or so_far (bit_xor x y) ≡ 0) ↔ (take more xs ≡ take more ys)
difference_more xs ys n more so_far x y in_xs in_ys here there next before =
    rw (here, there, next) (difference_at xs ys n so_far in_xs in_ys before)

-- two texts of one length, with the bits in which they differ
pub difference_of_all : (xs ys : List ℕ) (n difference : ℕ) → length xs ≡ length ys → n ≡ min (length xs) (length ys) → ((difference ≡ 0) ↔ (take n xs ≡ take n ys)) → nat_eq difference 0 ≡ bytes_eq xs ys
difference_of_all xs ys n difference even all found =
    let all_xs : take n xs ≡ xs = take_all n xs (omega arith) in
    let all_ys : take n ys ≡ ys = take_all n ys (omega arith) in
    same_from_decides (nat_eq difference 0) (bytes_eq xs ys)
    (Decides-like (nat_eq difference 0) (λ e. sym all_xs ∙ found.0 e ∙ all_ys) (λ e. found.1 (all_xs ∙ e ∙ sym all_ys)) (Decides-eqb difference 0))
    (bytes_eq-Decides xs ys)
