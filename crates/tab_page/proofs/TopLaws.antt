-- The number of rows is read from its decimal text and from no other.
use Rattle.std.proofs.Common.{◌≡◌, ℕ, ◌+◌, ◌-◌, ◌*◌, ◌/◌, ◌%◌, ◌^◌, ◌<◌, ◌≤◌, List, [], ◌∷◌, ◌++◌, length, get_or, Bool, true, false, cond, ◌&&◌, ◌==◌, Option, Some, None, refl, sym, ap, ◌∙◌, arith, append_assoc, append-nil, nat_le}
use Rattle.std.specs.Option.{option_and_then}
use Rattle.std.specs.Fmt.{decimal}
use Rattle.std.proofs.lemmas.Bool.{and_parts, leb-true, le-leb, eqb-false, ne_eqb}
use Rattle.std.proofs.lemmas.Option.{cond_some, option_and_then_some, same_Some}
use Rattle.std.proofs.lemmas.Fmt.{decimal_digit, decimal_step, decimal_by_steps, decimal_nonempty, first_decimal}
use Rattle.tab_page.specs.declared.TheConstants.{MOST_ROWS}
use Rattle.tab_page.specs.Queries.{is_digit, with_digit, with_digits, read_top, ReadsDecimals}

-- ---- one digit

record DigitRead (n b k : ℕ) : Type 0 where
  low : 48 ≤ b
  high : b ≤ 57
  value : n * 10 + (b - 48) ≡ k
  few : k ≤ MOST_ROWS

with_digit-is : (n b k : ℕ) → with_digit n b ≡ Some k → DigitRead n b k
with_digit-is n b k h =
    let parts = cond_some (is_digit b && nat_le (n * 10 + (b - 48)) MOST_ROWS) (n * 10 + (b - 48)) k h in
    let tests = and_parts (is_digit b) (nat_le (n * 10 + (b - 48)) MOST_ROWS) parts.0 in
    let digits = and_parts (nat_le 48 b) (nat_le b 57) tests.0 in
    let bound : n * 10 + (b - 48) ≤ MOST_ROWS = leb-true (n * 10 + (b - 48)) MOST_ROWS tests.1 in
    record { low = leb-true 48 b digits.0; high = leb-true b 57 digits.1; value = parts.1; few = let e = parts.1 in omega arith }

digit_gives : (n d k : ℕ) → d < 10 → n * 10 + d ≡ k → k ≤ MOST_ROWS → with_digit n (48 + d) ≡ Some k
digit_gives n d k small e few =
    let same : 48 + d - 48 ≡ d = omega arith in
    rw (le-leb 48 (48 + d) (omega arith), le-leb (48 + d) 57 (omega arith), same, e, le-leb k MOST_ROWS few) refl

-- ---- several digits

record Behind (n m : ℕ) (digits : List ℕ) : Type 0 where
  is : decimal m ≡ decimal n ++ digits
  low : n ≤ m
  few : m ≤ MOST_ROWS

one_more : (n b k : ℕ) → 0 < n → DigitRead n b k → decimal k ≡ decimal n ++ b ∷ []
one_more n b k some read =
    let low = read.low in
    let high = read.high in
    let value = read.value in
    let few = read.few in
    let front : k / 10 ≡ n = omega arith in
    let last : 48 + k % 10 ≡ b = omega arith in
    decimal_step k (omega arith) (omega arith) ∙ (ap (λ (q : ℕ). decimal q ++ (48 + k % 10) ∷ []) front ∙ ap (λ (x : ℕ). decimal n ++ x ∷ []) last)

joined : (n b k m : ℕ) (bs : List ℕ) → 0 < n → DigitRead n b k → Behind k m bs → Behind n m (b ∷ bs)
joined n b k m bs some read rest = record {
  is = rest.is ∙ (ap (λ (ds : List ℕ). ds ++ bs) (one_more n b k some read) ∙ append_assoc (decimal n) (b ∷ []) bs);
  low = let value = read.value in let low = rest.low in omega arith;
  few = rest.few;
}

behind : (n m : ℕ) (bs : List ℕ) → 0 < n → n ≤ MOST_ROWS → with_digits n bs ≡ Some m → Behind n m bs
behind n m [] some few h =
    let same : n ≡ m = same_Some n m h in
    record { is = ap decimal (sym same) ∙ sym (append-nil (decimal n)); low = omega arith; few = omega arith }
behind n m (b ∷ bs) some few h =
    option_and_then_some (λ k. with_digits k bs) (with_digit n b) m h
    (λ k e rest.
    let read = with_digit-is n b k e in
    let value = read.value in
    joined n b k m bs some read (behind k m bs (omega arith) read.few rest))

digits_more : (n m : ℕ) (ds : List ℕ) (b : ℕ) → with_digits n ds ≡ Some m → with_digits n (ds ++ b ∷ []) ≡ with_digit m b
digits_more n m [] b h = ap (λ (k : ℕ). option_and_then (λ x. Some x) (with_digit k b)) (same_Some n m h) ∙ unchanged (with_digit m b)
  where
    unchanged : (o : Option ℕ) → option_and_then (λ x. Some x) o ≡ o
    unchanged None = refl
    unchanged (Some x) = refl
digits_more n m (x ∷ ds) b h =
    option_and_then_some (λ k. with_digits k ds) (with_digit n x) m h
    (λ k e rest. ap (option_and_then (λ y. with_digits y (ds ++ b ∷ []))) e ∙ digits_more k m ds b rest)

-- ---- a number's text

first_digit : (b k : ℕ) → (b ≡ 48 → ⊥) → DigitRead 0 b k → (0 < k) × (decimal k ≡ b ∷ [])
first_digit b k other read =
    let low = read.low in
    let high = read.high in
    let value = read.value in
    let same : 48 + k ≡ b = omega arith in
    (omega arith, decimal_digit k (omega arith) ∙ ap (λ (x : ℕ). x ∷ []) same)

read_forth : (text : List ℕ) (n : ℕ) → read_top text ≡ Some n → (1 ≤ n) × (n ≤ MOST_ROWS) × (text ≡ decimal n)
read_forth [] n h = cc h
read_forth (b ∷ bs) n h = by_test (b == 48) refl
  where
    by_test : (t : Bool) → (b == 48) ≡ t → (1 ≤ n) × (n ≤ MOST_ROWS) × (b ∷ bs ≡ decimal n)
    by_test true e = cc (sym (ap (λ (u : Bool). cond u None (with_digits 0 (b ∷ bs))) e) ∙ h)
    by_test false e =
        option_and_then_some (λ k. with_digits k bs) (with_digit 0 b) n (sym (ap (λ (u : Bool). cond u None (with_digits 0 (b ∷ bs))) e) ∙ h)
        (λ k f rest.
        let read = with_digit-is 0 b k f in
        let first = first_digit b k (eqb-false b 48 e) read in
        let some = first.0 in
        let all = behind k n bs some read.few rest in
        let low = all.low in
        (omega arith, all.few, sym (all.is ∙ ap (λ (ds : List ℕ). ds ++ bs) first.1)))

digits_of : (n : ℕ) → n < 2 ^ 64 → n ≤ MOST_ROWS → with_digits 0 (decimal n) ≡ Some n
digits_of = decimal_by_steps (λ n ds. n ≤ MOST_ROWS → with_digits 0 ds ≡ Some n)
    (λ n small few. ap (option_and_then (λ y. with_digits y [])) (digit_gives 0 n n small (omega arith) few))
    (λ n ds large rest few.
    let front = rest (omega arith) in
    let last : n % 10 < 10 = omega arith in
    digits_more 0 (n / 10) ds (48 + n % 10) front ∙ digit_gives (n / 10) (n % 10) n last (omega arith) few)

read_nonzero : (text : List ℕ) (n : ℕ) → 0 < length text → 48 < get_or text 0 0 → with_digits 0 text ≡ Some n → read_top text ≡ Some n
read_nonzero [] n some first h = absurd (omega arith)
read_nonzero (b ∷ bs) n some first h = ap (λ (u : Bool). cond u None (with_digits 0 (b ∷ bs))) (ne_eqb b 48 (λ e. omega arith)) ∙ h

read_back : (text : List ℕ) (n : ℕ) → (1 ≤ n) × (n ≤ MOST_ROWS) × (text ≡ decimal n) → read_top text ≡ Some n
read_back text n h =
    let low = h.0 in
    let few = h.1 in
    ap read_top h.2 ∙ read_nonzero (decimal n) n (decimal_nonempty n (omega arith)) (first_decimal n (omega arith) (omega arith)) (digits_of n (omega arith) few)

pub reads_decimals : ReadsDecimals
reads_decimals text n = (read_forth text n, read_back text n)
