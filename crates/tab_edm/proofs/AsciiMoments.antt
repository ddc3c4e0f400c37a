-- The texts of moments are ASCII.
use Rattle.std.proofs.Common.{ℕ, zero, suc, ◌/◌, ◌%◌, ◌<◌, List, [], ◌∷◌, ◌++◌, arith, lit<}
use Rattle.std.specs.Prelude.{codes, IsUtf8}
use Rattle.std.specs.Str.{IsAscii}
use Rattle.std.proofs.lemmas.Str.{IsAscii-append, IsUtf8-from_ascii}
use Rattle.tab_edm.specs.Moments.{CivilDate, date_after, last_digits, text_of_date, text_of_time, text_of_fraction, moment_with, text_of_moment, text_of_etag}
use Rattle.tab_edm.specs.declared.TheConstants.{TICKS_IN_A_SECOND}
use Rattle.tab_edm.proofs.Digits.{last_digits_none, last_digits_more}

-- a text of ASCII, under a name that does not compute
record IsPlain (bs : List ℕ) : Type 0 where
  is : IsAscii bs

none : IsPlain []
none = record { is = λ i. lit< tt }

ascii_cons : (b : ℕ) (bs : List ℕ) → b < 128 → IsAscii bs → IsAscii (b ∷ bs)
ascii_cons b bs small rest zero = small
ascii_cons b bs small rest (suc i) = rest i

one_more : {b : ℕ} {bs : List ℕ} → b < 128 → IsPlain bs → IsPlain (b ∷ bs)
one_more {b} {bs} small rest = record { is = ascii_cons b bs small rest.is }

infixl 10 ◌then◌
◌then◌ : {xs ys : List ℕ} → IsPlain xs → IsPlain ys → IsPlain (xs ++ ys)
◌then◌ {xs} {ys} first rest = record { is = IsAscii-append xs ys first.is rest.is }

digits : (count n : ℕ) → IsPlain (last_digits count n)
digits zero n = rw last_digits_none none
digits (suc count) n = rw last_digits_more (digits count (n / 10) then one_more (omega arith) none)

dash : IsPlain (codes "-")
dash = one_more (lit< tt) none

date : (d : CivilDate) → IsPlain (text_of_date d)
unfolding text_of_date
date d = digits 4 d.year then dash then digits 2 d.month then dash then digits 2 d.day

time : (colon : List ℕ) (hour minute second : ℕ) → IsPlain colon → IsPlain (text_of_time colon hour minute second)
unfolding text_of_time
time colon hour minute second h = digits 2 hour then h then digits 2 minute then h then digits 2 second

fraction : (count n : ℕ) → IsPlain (text_of_fraction count n)
unfolding text_of_fraction
fraction zero n = one_more (lit< tt) none
fraction (suc count) n = one_more (lit< tt) (digits (suc count) n then one_more (lit< tt) none)

before_time : IsPlain (codes "T")
before_time = one_more (lit< tt) none

moment : (colon : List ℕ) (tick : ℕ) → IsPlain colon → IsPlain (moment_with colon tick)
unfolding moment_with
moment colon tick h =
    let second = tick / TICKS_IN_A_SECOND % 86_400 in
    date (date_after (tick / 864_000_000_000)) then before_time then time colon (second / 3600) (second / 60 % 60) (second % 60) h then fraction 7 (tick % TICKS_IN_A_SECOND)

text : (tick : ℕ) → IsPlain (text_of_moment tick)
unfolding text_of_moment
text tick = moment (codes ":") tick (one_more (lit< tt) none)

front : {bs : List ℕ} → IsPlain bs → IsPlain (codes "W/\"datetime'" ++ bs)
front h =
    one_more (lit< tt) (one_more (lit< tt) (one_more (lit< tt) (one_more (lit< tt) (one_more (lit< tt) (one_more (lit< tt)
    (one_more (lit< tt) (one_more (lit< tt) (one_more (lit< tt) (one_more (lit< tt) (one_more (lit< tt) (one_more (lit< tt) h)))))))))))

etag : (tick : ℕ) → IsPlain (text_of_etag tick)
unfolding text_of_etag
etag tick =
    front (moment (codes "%3A") tick (one_more (lit< tt) (one_more (lit< tt) (one_more (lit< tt) none))) then one_more (lit< tt) (one_more (lit< tt) none))

pub utf8_moment : (tick : ℕ) → IsUtf8 (text_of_moment tick)
utf8_moment tick = IsUtf8-from_ascii (text_of_moment tick) (text tick).is

pub utf8_etag : (tick : ℕ) → IsUtf8 (text_of_etag tick)
utf8_etag tick = IsUtf8-from_ascii (text_of_etag tick) (etag tick).is
