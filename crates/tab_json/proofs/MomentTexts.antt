-- The texts of moments and of ETags are ASCII, on one line.
use Rattle.std.proofs.Common.{◌≡◌, ℕ, zero, suc, ◌+◌, ◌/◌, ◌%◌, ◌<◌, List, [], ◌∷◌, ◌++◌, Bool, true, false, All, IsUtf8, nat_lt, refl, ◌∙◌, codes, arith, ◌&&◌, ◌==◌, not}
use Rattle.std.specs.List.{list_all}
use Rattle.std.proofs.lemmas.Bool.{and_parts, ne_eqb}
use Rattle.std.proofs.lemmas.Bool.Decides.{nat_tests}
use Rattle.std.proofs.lemmas.List.Elements.{All-nil, All-cons}
use Rattle.std.proofs.lemmas.List.Folds.{list_all-append}
use Rattle.std.proofs.lemmas.Str.{IsUtf8-from_ascii}
use Rattle.std.proofs.lemmas.Str.Ascii.{IsAscii-from_all}
use Rattle.tab_edm.specs.Moments.{CivilDate, date_after, last_digits, text_of_date, text_of_time, text_of_fraction, moment_with, text_of_moment, text_of_etag}

-- ASCII, and no line feed
is_low : ℕ → Bool
is_low b = nat_lt b 128 && not (b == 10)

low_all : (xs : List ℕ) → list_all is_low xs ≡ true → All (λ b. b < 128) xs
unfolding is_low
low_all [] is = All-nil (λ b. b < 128)
low_all (x ∷ xs) is =
    let parts = and_parts (nat_lt x 128 && not (x == 10)) (list_all is_low xs) is in
    let first : nat_lt x 128 ≡ true = (and_parts (nat_lt x 128) (not (x == 10)) parts.0).0 in
    All-cons (λ b. b < 128) x xs (grind (arith, nat_tests, first)) (low_all xs parts.1)

one_line : (xs : List ℕ) → list_all is_low xs ≡ true → list_all (λ b. not (b == 10)) xs ≡ true
unfolding is_low
one_line [] is = refl
one_line (x ∷ xs) is =
    let parts = and_parts (nat_lt x 128 && not (x == 10)) (list_all is_low xs) is in
    rw ((and_parts (nat_lt x 128) (not (x == 10)) parts.0).1) (one_line xs parts.1)

both_low : (xs ys : List ℕ) → list_all is_low xs ≡ true → list_all is_low ys ≡ true → list_all is_low (xs ++ ys) ≡ true
both_low xs ys p q = list_all-append is_low xs ys ∙ rw (p, q) refl

digits_low : (count n : ℕ) → list_all is_low (last_digits count n) ≡ true
unfolding last_digits is_low
digits_low zero n = refl
digits_low (suc count) n = both_low (last_digits count (n / 10)) ((48 + n % 10) ∷ []) (digits_low count (n / 10)) last
  where
    last : list_all is_low ((48 + n % 10) ∷ []) ≡ true
    last =
        let small : nat_lt (48 + n % 10) 128 ≡ true = grind (arith, nat_tests) in
        let other : (48 + n % 10 == 10) ≡ false = ne_eqb (48 + n % 10) 10 (λ e. omega (arith, e)) in
        rw (small, other) refl

date_low : (d : CivilDate) → list_all is_low (text_of_date d) ≡ true
unfolding text_of_date is_low
date_low d =
    both_low (last_digits 4 d.year ++ codes "-" ++ last_digits 2 d.month ++ codes "-") (last_digits 2 d.day)
    (both_low (last_digits 4 d.year ++ codes "-" ++ last_digits 2 d.month) (codes "-")
    (both_low (last_digits 4 d.year ++ codes "-") (last_digits 2 d.month)
    (both_low (last_digits 4 d.year) (codes "-") (digits_low 4 d.year) refl) (digits_low 2 d.month)) refl) (digits_low 2 d.day)

time_low : (colon : List ℕ) (hour minute second : ℕ) → list_all is_low colon ≡ true → list_all is_low (text_of_time colon hour minute second) ≡ true
unfolding text_of_time is_low
time_low colon hour minute second is =
    both_low (last_digits 2 hour ++ colon ++ last_digits 2 minute ++ colon) (last_digits 2 second)
    (both_low (last_digits 2 hour ++ colon ++ last_digits 2 minute) colon
    (both_low (last_digits 2 hour ++ colon) (last_digits 2 minute)
    (both_low (last_digits 2 hour) colon (digits_low 2 hour) is) (digits_low 2 minute)) is) (digits_low 2 second)

fraction_low : (fraction : ℕ) → list_all is_low (text_of_fraction 7 fraction) ≡ true
unfolding text_of_fraction is_low
fraction_low fraction =
    both_low (codes "." ++ last_digits 7 fraction) (codes "Z") (both_low (codes ".") (last_digits 7 fraction) refl (digits_low 7 fraction)) refl

moment_low : (colon : List ℕ) (tick : ℕ) → list_all is_low colon ≡ true → list_all is_low (moment_with colon tick) ≡ true
unfolding moment_with is_low
moment_low colon tick is =
    let date = text_of_date (date_after (tick / 864_000_000_000)) in
    let second = tick / 10_000_000 % 86_400 in
    let time = text_of_time colon (second / 3600) (second / 60 % 60) (second % 60) in
    both_low (date ++ codes "T" ++ time) (text_of_fraction 7 (tick % 10_000_000))
    (both_low (date ++ codes "T") time (both_low date (codes "T") (date_low (date_after (tick / 864_000_000_000))) refl) (time_low colon (second / 3600) (second / 60 % 60) (second % 60) is)) (fraction_low (tick % 10_000_000))

etag_low : (tick : ℕ) → list_all is_low (text_of_etag tick) ≡ true
unfolding text_of_etag is_low
etag_low tick =
    both_low (codes "W/\"datetime'" ++ moment_with (codes "%3A") tick) (codes "'\"") (both_low (codes "W/\"datetime'") (moment_with (codes "%3A") tick) refl (moment_low (codes "%3A") tick refl)) refl

low_text : (text : List ℕ) → list_all is_low text ≡ true → IsUtf8 text
low_text text is = IsUtf8-from_ascii text (IsAscii-from_all text (low_all text is))

-- an ETag stands on one line
pub etag_line : (tick : ℕ) → list_all (λ b. not (b == 10)) (text_of_etag tick) ≡ true
etag_line tick = one_line (text_of_etag tick) (etag_low tick)

pub etag_text : (tick : ℕ) → IsUtf8 (text_of_etag tick)
etag_text tick = low_text (text_of_etag tick) (etag_low tick)

pub moment_text : (tick : ℕ) → IsUtf8 (text_of_moment tick)
unfolding text_of_moment is_low
moment_text tick = low_text (moment_with (codes ":") tick) (moment_low (codes ":") tick refl)
