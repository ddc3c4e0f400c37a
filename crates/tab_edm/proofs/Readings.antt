-- What the readers of dates and times make of the numbers that they read.
use Rattle.std.proofs.Common.{◌≡◌, ℕ, zero, suc, take, drop, ◌+◌, ◌-◌, ◌*◌, ◌/◌, ◌%◌, ◌^◌, ◌<◌, ◌≤◌, List, length, Option, Some, None, refl, sym, ap, subst, ◌∙◌, arith, pos}
use Rattle.std.proofs.lemmas.Nat.{pow-add}
use Rattle.std.proofs.Math.Nat.{one-le-pow, mul-lt-mul_of_pos_right}
use Rattle.std.specs.Prelude.{codes}
use Rattle.std.specs.Option.{MatchOption}
use Rattle.jiff_core.proofs.CalendarLemmas.{days_in_month_bounds}
use Rattle.tab_edm.specs.Moments.{CivilDate, IsServed, Spells, date_after, last_digits, text_of_date, text_of_time, text_of_fraction}
use Rattle.tab_edm.proofs.Dates.{same_parts, date_after-IsServed, days_before-date_after}
use Rattle.tab_edm.proofs.Digits.{last_digits_same}
use Rattle.tab_edm.proofs.Pieces.{DateFields, fields_of_date, date_from_fields, TimeFields, fields_of_time, time_from_fields, FractionFields, fields_of_fraction, fraction_from_fields, MomentFields, fields_of_moment, moment_from_fields}

-- a day of a month has two digits
pub day_small : (d : CivilDate) → IsServed d → d.day < 10 ^ 2
day_small d served =
    let long = days_in_month_bounds (pos d.year) d.month in
    let last = served.day_high in
    omega arith

pub date_read : (text : List ℕ) (date : CivilDate) (days : Option ℕ) → date.year < 10 ^ 4 → date.month < 10 ^ 2 → date.day < 10 ^ 2 → DateFields text date → MatchOption days (IsServed date → ⊥) (λ n. (n ≤ 3_067_670) × (date_after n ≡ date)) → MatchOption days ((d : CivilDate) → IsServed d → text ≡ text_of_date d → ⊥) (λ n. (n ≤ 3_067_670) × (text ≡ text_of_date (date_after n)))
date_read text date None year month day f h = λ d served is.
    let g = fields_of_date text d is in
    let low = served.year_high in
    let few = served.month_high in
    let same = same_parts d date
    (last_digits_same 4 d.year date.year (omega arith) year (sym g.year ∙ f.year))
    (last_digits_same 2 d.month date.month (omega arith) month (sym g.month ∙ f.month))
    (last_digits_same 2 d.day date.day (day_small d served) day (sym g.day ∙ f.day)) in
    h (subst IsServed same served)
date_read text date (Some n) year month day f h = (h.0, date_from_fields text date f ∙ ap text_of_date (sym h.1))

-- a time whose text has these pieces has these numbers
pub time_same : (colon text : List ℕ) (hour minute second h m s : ℕ) → h < 10 ^ 2 → m < 10 ^ 2 → s < 10 ^ 2 → TimeFields colon text h m s → hour ≤ 23 → minute ≤ 59 → second ≤ 59 → text ≡ text_of_time colon hour minute second → (hour ≡ h) × (minute ≡ m) × (second ≡ s)
time_same colon text hour minute second h m s hs ms ss f hour_in minute_in second_in is =
    let g = fields_of_time colon text hour minute second is in (
      last_digits_same 2 hour h (omega arith) hs (sym g.hours ∙ f.hours),
      last_digits_same 2 minute m (omega arith) ms (sym g.minutes ∙ f.minutes),
      last_digits_same 2 second s (omega arith) ss (sym g.seconds ∙ f.seconds),
    )

pub time_read : (colon text : List ℕ) (h m s : ℕ) → TimeFields colon text h m s → h ≤ 23 → m ≤ 59 → s ≤ 59 → ((h * 60 + m) * 60 + s < 86_400) × (text ≡ text_of_time colon (((h * 60 + m) * 60 + s) / 3600) (((h * 60 + m) * 60 + s) / 60 % 60) (((h * 60 + m) * 60 + s) % 60))
time_read colon text h m s f hour_in minute_in second_in =
    let hour : ((h * 60 + m) * 60 + s) / 3600 ≡ h = omega arith in
    let minute : ((h * 60 + m) * 60 + s) / 60 % 60 ≡ m = omega arith in
    let second : ((h * 60 + m) * 60 + s) % 60 ≡ s = omega arith in
    (omega arith, rw (hour, minute, second) (time_from_fields colon text h m s f))

-- a text of a fraction that is no `Z` alone has digits
pub fraction_fields : (text : List ℕ) (count fraction : ℕ) → (text ≡ codes "Z" → ⊥) → text ≡ text_of_fraction count fraction → (0 < count) × FractionFields text count fraction
unfolding text_of_fraction
fraction_fields text zero fraction differ is = absurd (differ is)
fraction_fields text (suc count) fraction differ is = (omega arith, fields_of_fraction text count fraction is)

pub fraction_read : (text : List ℕ) (fraction : ℕ) → 3 ≤ length text → take 1 (drop 0 text) ≡ codes "." → take 1 (drop (length text - 1) text) ≡ codes "Z" → take (length text - 2) (drop 1 text) ≡ last_digits (length text - 2) fraction → text ≡ text_of_fraction (length text - 2) fraction
fraction_read text fraction long dot zone digits =
    let count : length text - 2 ≡ suc (length text - 3) = omega arith in
    let end : length text - 1 ≡ suc (length text - 3) + 1 = omega arith in
    rw count (fraction_from_fields text (length text - 3) fraction (record {
      long = omega arith;
      dot = dot;
      digits = rw count at digits;
      zone = rw end at zone;
    }))

-- a fraction in ticks is less than a second
pub scaled : (count fraction : ℕ) → count ≤ 7 → fraction < 10 ^ count → fraction * 10 ^ (7 - count) < 10_000_000
scaled count fraction few small =
    let all : count + (7 - count) ≡ 7 = omega arith in
    let whole : 10 ^ count * 10 ^ (7 - count) ≡ 10_000_000 = sym (pow-add 10 count (7 - count)) ∙ rw all refl in
    let some : 0 < 10 ^ (7 - count) = one-le-pow (7 - count) 10 (omega arith) in
    rw (← whole) (mul-lt-mul_of_pos_right small some)

pub moment_read : (colon text : List ℕ) (days second ticks count fraction : ℕ) → days ≤ 3_067_670 → second < 86_400 → count ≤ 7 → fraction < 10 ^ count → ticks ≡ fraction * 10 ^ (7 - count) → MomentFields colon text (text_of_date (date_after days)) (text_of_time colon (second / 3600) (second / 60 % 60) (second % 60)) (text_of_fraction count fraction) → Spells colon text ((days * 86_400 + second) * 10_000_000 + ticks)
moment_read colon text days second ticks count fraction few day count_in fraction_in ticks_are f = record {
  date = date_after days;
  hour = second / 3600;
  minute = second / 60 % 60;
  second = second % 60;
  count = count;
  fraction = fraction;
  date_in = date_after-IsServed days few;
  hour_in = omega arith;
  minute_in = omega arith;
  second_in = omega arith;
  count_in = count_in;
  fraction_in = fraction_in;
  text_is = moment_from_fields colon text (text_of_date (date_after days)) (text_of_time colon (second / 3600) (second / 60 % 60) (second % 60)) (text_of_fraction count fraction) f;
  tick_is = let same : ((days * 24 + second / 3600) * 60 + second / 60 % 60) * 60 + second % 60 ≡ days * 86_400 + second = omega arith in
      rw (days_before-date_after days, same, ticks_are) refl;
}

-- the pieces of a text that gives a moment
pub spelled_fields : (colon text : List ℕ) (tick : ℕ) → (s : Spells colon text tick) → MomentFields colon text (text_of_date s.date) (text_of_time colon s.hour s.minute s.second) (text_of_fraction s.count s.fraction)
spelled_fields colon text tick s = fields_of_moment colon text s.date s.hour s.minute s.second s.count s.fraction s.text_is
