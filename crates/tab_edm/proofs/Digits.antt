-- The last digits of numbers.
use Rattle.std.proofs.Common.{◌≡◌, ℕ, zero, suc, ◌+◌, ◌-◌, ◌*◌, ◌/◌, ◌%◌, ◌^◌, ◌<◌, ◌≤◌, inl, inr, List, [], ◌∷◌, ◌++◌, length, take, drop, get_or, refl, sym, ap, ◌∙◌, arith, length-append, add-one}
use Rattle.std.proofs.lemmas.Bool.{cases_lt}
use Rattle.std.proofs.lemmas.List.{take_more, get_or_append_left}
use Rattle.std.proofs.Math.Seq.{get_or-append_seam, take-length}
use Rattle.std.proofs.Math.Nat.{pow-suc, pow-le-pow_right}
use Rattle.tab_edm.specs.Moments.{last_digits}

pub last_digits_none : (n : ℕ) → last_digits 0 n ≡ []
unfolding last_digits
last_digits_none n = refl

pub last_digits_more : (count n : ℕ) → last_digits (suc count) n ≡ last_digits count (n / 10) ++ (48 + n % 10) ∷ []
unfolding last_digits
last_digits_more count n = refl

pub length-last_digits : (count n : ℕ) → length (last_digits count n) ≡ count
length-last_digits zero n = ap length (last_digits_none n)
length-last_digits (suc count) n = rw (last_digits_more, length-append, length-last_digits count (n / 10)) (omega arith)

-- a number with one digit more
pub last_digits_push : (count n d : ℕ) → d < 10 → last_digits (suc count) (n * 10 + d) ≡ last_digits count n ++ (48 + d) ∷ []
last_digits_push count n d h =
    let front : (n * 10 + d) / 10 ≡ n = omega arith in
    let last : (n * 10 + d) % 10 ≡ d = omega arith in
    rw (last_digits_more, front, last) refl

-- the step of a loop that reads digits
pub read_more : (digits : List ℕ) (i n b : ℕ) → i < length digits → b ≡ get_or digits i 0 → 48 ≤ b → b ≤ 57 → n < 10 ^ i → take i digits ≡ last_digits i n → (n * 10 + (b - 48) < 10 ^ (i + 1)) × (take (i + 1) digits ≡ last_digits (i + 1) (n * 10 + (b - 48)))
read_more digits i n b h here low high small so_far =
    let back : 48 + (b - 48) ≡ b = omega arith in (
      rw add-one (omega (arith, pow-suc 10 i)),
      rw (take_more digits i 0 h, so_far, add-one, last_digits_push i n (b - 48) (omega arith), back, here) refl,
    )

-- its end
pub read_all : (digits : List ℕ) (i n : ℕ) → i ≡ length digits → n < 10 ^ i → take i digits ≡ last_digits i n → (n < 10 ^ length digits) × (digits ≡ last_digits (length digits) n)
read_all digits i n end small so_far = (rw (← end) small, sym (take-length digits) ∙ rw (← end) so_far)

-- so much stays below 32 bits
pub small_power : (i : ℕ) → i < 7 → 10 ^ i ≤ 1_000_000
small_power i h = let up : i ≤ 6 = omega arith in pow-le-pow_right (omega arith) up

-- each of the last digits is a digit
pub digit_at : (count n i : ℕ) → i < count → (48 ≤ get_or (last_digits count n) i 0) × (get_or (last_digits count n) i 0 ≤ 57)
digit_at zero n i h = absurd (omega arith)
digit_at (suc count) n i h =
    let long = length-last_digits count (n / 10) in
    elim (cases_lt i count) [
      | inl front ↦ let within : i < length (last_digits count (n / 10)) = omega arith in
          rw (last_digits_more, get_or_append_left) (digit_at count (n / 10) i front)
      | inr back ↦ let last : i ≡ length (last_digits count (n / 10)) = omega arith in
          rw (last_digits_more, last, get_or-append_seam) (omega arith, omega arith)
    ]

-- two texts whose first parts are as long have the same parts
pub append_same : (a c b d : List ℕ) → length a ≡ length c → a ++ b ≡ c ++ d → (a ≡ c) × (b ≡ d)
append_same [] [] b d h e = (refl, e)
append_same [] (y ∷ ys) b d h e = absurd (omega arith)
append_same (x ∷ xs) [] b d h e = absurd (omega arith)
append_same (x ∷ xs) (y ∷ ys) b d h e =
    let head : x ≡ y = ap (λ (l : List ℕ). get_or l 0 0) e in
    let rest = append_same xs ys b d (omega arith) (ap (drop 1) e) in
    (rw (head, rest.0) refl, rest.1)

-- numbers with so many digits are told apart by them
pub last_digits_same : (count m n : ℕ) → m < 10 ^ count → n < 10 ^ count → last_digits count m ≡ last_digits count n → m ≡ n
last_digits_same zero m n low high e = omega arith
last_digits_same (suc count) m n low high e =
    let long : length (last_digits count (m / 10)) ≡ length (last_digits count (n / 10)) = length-last_digits count (m / 10) ∙ sym (length-last_digits count (n / 10)) in
    let parts = append_same (last_digits count (m / 10)) (last_digits count (n / 10)) _ _ long (sym (last_digits_more count m) ∙ e ∙ last_digits_more count n) in
    let last : 48 + m % 10 ≡ 48 + n % 10 = ap (λ (l : List ℕ). get_or l 0 0) parts.1 in
    let front = last_digits_same count (m / 10) (n / 10) (omega (arith, pow-suc 10 count)) (omega (arith, pow-suc 10 count)) parts.0 in
    omega arith
