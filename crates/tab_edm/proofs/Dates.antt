-- The dates that are counted from 1601-01-01 are those of jiff's day numbers.
use Rattle.std.proofs.Common.{◌≡◌, ℕ, zero, suc, ◌+◌, ◌-◌, ◌<◌, ◌≤◌, inl, inr, refl, sym, ap, ◌∙◌, arith, rules, ltb, unsigned_abs, pos, ◌+ℤ◌, ◌≤ℤ◌}
use Rattle.std.proofs.lemmas.Bool.{cond_both, ltb-true, ltb-false, cases_lt}
use Rattle.jiff_core.specs.declared.civil.date.Date.{Date}
use Rattle.jiff_core.specs.Calendar.{days_in_month, day_count, IsDate}
use Rattle.jiff_core.specs.Date.{epoch_day, IsYmd}
use Rattle.jiff_core.proofs.SignedLemmas.{signed_arith}
use Rattle.jiff_core.proofs.CalendarLemmas.{days_in_month_bounds, day_count_bounds, days_from_civil-day_count, day_count-day, day_count-next_month, day_count-next_year, day_count-last_of_year, day_count-lt_year}
use Rattle.jiff_core.proofs.MarchLemmas.{day_count-early}
use Rattle.jiff_core.proofs.DateLemmas.{days_from_civil-max, epoch_day_injective, IsEarlier, cases_date, epoch_day-lt, epoch_day_same}
use Rattle.tab_edm.specs.Moments.{IsServed, CivilDate, days_before, next_date, date_after}

-- a date of the calendar that comes n days after 1601-01-01
pub record IsCounted (n : ℕ) (d : CivilDate) : Type 0 where
  pub year : 1601 ≤ d.year
  pub month_low : 1 ≤ d.month
  pub month_high : d.month ≤ 12
  pub day_low : 1 ≤ d.day
  pub day_high : d.day ≤ days_in_month (pos d.year) d.month
  pub count : day_count (pos d.year) d.month d.day ≡ 4_237_179 + n

first_count : day_count (pos 1601) 1 1 ≡ 4_237_179
first_count = day_count-early (pos 1601) 11600 1 1 refl (omega arith) (omega arith) (omega arith)

next_day_counts : (n : ℕ) (d : CivilDate) → IsCounted n d → d.day < days_in_month (pos d.year) d.month → IsCounted (suc n) (record d { day = d.day + 1 })
next_day_counts n d h short = record {
  year = h.year;
  month_low = h.month_low;
  month_high = h.month_high;
  day_low = omega arith;
  day_high = omega arith;
  count = omega (arith, h.count, day_count-day (pos d.year) d.month d.day (d.day + 1) h.day_low (omega arith));
}

next_month_counts : (n : ℕ) (d : CivilDate) → IsCounted n d → days_in_month (pos d.year) d.month ≤ d.day → d.month < 12 → IsCounted (suc n) (record { year = d.year; month = d.month + 1; day = 1 })
next_month_counts n d h long early =
    let bounds = days_in_month_bounds (pos d.year) (d.month + 1) in
    record {
      year = h.year;
      month_low = omega arith;
      month_high = omega arith;
      day_low = omega arith;
      day_high = omega arith;
      count = omega (arith, h.count, h.day_high, day_count-next_month (pos d.year) d.month h.month_low, day_count-day (pos d.year) d.month d.day 1 h.day_low (omega arith));
    }

next_year_counts : (n : ℕ) (d : CivilDate) → IsCounted n d → days_in_month (pos d.year) d.month ≤ d.day → 12 ≤ d.month → IsCounted (suc n) (record { year = d.year + 1; month = 1; day = 1 })
next_year_counts n d h long late =
    let bounds = days_in_month_bounds (pos (d.year + 1)) 1 in
    let december : d.month ≡ 12 = omega (arith, h.month_high) in
    let last : d.day ≡ days_in_month (pos d.year) d.month = omega (arith, h.day_high) in
    let end : d.day ≡ 31 = rw december at last in
    let count = rw (december, end) at h.count in
    record {
      year = omega (arith, h.year);
      month_low = omega arith;
      month_high = omega arith;
      day_low = omega arith;
      day_high = omega arith;
      count = omega (arith, count, day_count-next_year (pos d.year) (pos (d.year + 1)) (omega (arith, signed_arith)) (omega (arith, signed_arith)), day_count-last_of_year (pos d.year));
    }

IsCounted-next : (n : ℕ) (d : CivilDate) → IsCounted n d → IsCounted (suc n) (next_date d)
unfolding next_date
IsCounted-next n d h =
    let P : CivilDate → Type 0 = IsCounted (suc n) in
    cond_both (ltb d.day (days_in_month (pos d.year) d.month)) _ _ P
    (λ e. next_day_counts n d h (ltb-true _ _ e))
    (λ e. cond_both (ltb d.month 12) _ _ P
    (λ f. next_month_counts n d h (ltb-false _ _ e) (ltb-true _ _ f))
    (λ f. next_year_counts n d h (ltb-false _ _ e) (ltb-false _ _ f)))

-- so does each date that is counted
pub date_after-IsCounted : (n : ℕ) → IsCounted n (date_after n)
unfolding date_after
date_after-IsCounted zero = record {
  year = omega arith;
  month_low = omega arith;
  month_high = omega arith;
  day_low = omega arith;
  day_high = omega arith;
  count = first_count;
}
date_after-IsCounted (suc n) = IsCounted-next n (date_after n) (date_after-IsCounted n)

-- a counted date up to 9999-12-31 is a date of jiff's
year_bound : (n : ℕ) (d : CivilDate) → IsCounted n d → n ≤ 3_067_670 → d.year ≤ 9999
year_bound n d h high =
    elim (cases_lt 9999 d.year) [
      | inl late ↦ absurd (omega (arith, signed_arith, h.count, days_from_civil-max, days_from_civil-day_count (pos 9999) 12 31, day_count-lt_year (pos 9999) 12 31 (pos d.year) d.month d.day (omega arith, omega arith, omega arith) h.day_low (omega (arith, signed_arith))))
      | inr in_time ↦ in_time
    ]

jiff_date : (n : ℕ) (d : CivilDate) → IsCounted n d → n ≤ 3_067_670 → Date
jiff_date n d h high =
    let low = h.year in
    let bound = year_bound n d h high in
    record {
      year = pos d.year;
      month = d.month;
      day = d.day;
      year_in = (omega (arith, signed_arith), omega (arith, signed_arith));
      month_in = (h.month_low, h.month_high);
      day_in = (h.day_low, h.day_high);
    }

-- jiff's date of a day number is the counted one
pub date_after_is : (n : ℕ) (d : Date) → n ≤ 3_067_670 → epoch_day d +ℤ pos 4_371_587 ≡ pos (n + 4_236_813) → (d.year ≡ pos (date_after n).year) × (d.month ≡ (date_after n).month) × (d.day ≡ (date_after n).day)
unfolding jiff_date
date_after_is n d high e =
    let h = date_after-IsCounted n in
    epoch_day_injective d (jiff_date n (date_after n) h high) (omega (arith, signed_arith, h.count, days_from_civil-day_count))

-- jiff has each date that is served
pub served_is_date : (d : CivilDate) → IsServed d → IsDate (pos d.year) (pos d.month) (pos d.day)
served_is_date d h =
    let low = h.year_low in
    let high = h.year_high in
    let month_low = h.month_low in
    let month_high = h.month_high in
    let day_low = h.day_low in
    let day_high = h.day_high in
    ((omega (arith, signed_arith), omega (arith, signed_arith)), (omega (arith, signed_arith), omega (arith, signed_arith)), (omega (arith, signed_arith), omega (arith, signed_arith)))

first_date : Date
first_date = record { year = pos 1601; month = 1; day = 1; year_in = search rules; month_in = search rules; day_in = search rules }

too_early : (date : Date) (year : ℕ) → date.year ≡ pos year → 1601 ≤ year → IsEarlier date first_date → ⊥
unfolding first_date
too_early date year is low (inl before) = omega (arith, signed_arith)
too_early date year is low (inr (same, inl before)) = omega (arith, date.month_in)
too_early date year is low (inr (same, inr before)) = omega (arith, date.day_in)

-- no date of the years from 1601 on is earlier than the first
not_before : (date : Date) (year : ℕ) → date.year ≡ pos year → 1601 ≤ year → epoch_day first_date ≤ℤ epoch_day date
unfolding first_date
not_before date year is low =
    elim (cases_date date first_date) [
      | inl early ↦ absurd (too_early date year is low early)
      | inr (inl late) ↦ omega (arith, signed_arith, epoch_day-lt first_date date late)
      | inr (inr same) ↦ omega (arith, signed_arith, epoch_day_same date first_date same.0 same.1 same.2)
    ]

pub same_parts : (a b : CivilDate) → a.year ≡ b.year → a.month ≡ b.month → a.day ≡ b.day → a ≡ b
same_parts a b year month day = λ i. record { year = year i; month = month i; day = day i }

-- the days to a date of jiff's that is served
pub days_to_date : (d : CivilDate) (date : Date) (days : ℕ) → 1601 ≤ d.year → d.year ≤ 9999 → IsYmd (pos d.year) (pos d.month) (pos d.day) date → epoch_day date +ℤ pos 4_371_587 ≡ pos days → days ≤ 7_304_483 → (4_236_813 ≤ days) × (days - 4_236_813 ≤ 3_067_670) × (date_after (days - 4_236_813) ≡ d)
unfolding first_date
days_to_date d date days low high (year, month, day) count bound =
    let from : 4_236_813 ≤ days = omega (arith, signed_arith, not_before date d.year year low, first_count, days_from_civil-day_count (pos 1601) 1 1) in
    let back : days - 4_236_813 + 4_236_813 ≡ days = omega arith in
    let few : days - 4_236_813 ≤ 3_067_670 = omega arith in
    let parts = date_after_is (days - 4_236_813) date few (rw back count) in (
      from,
      few,
      same_parts (date_after (days - 4_236_813)) d
          (ap unsigned_abs (sym parts.0 ∙ year))
          (sym parts.1 ∙ ap unsigned_abs month)
          (sym parts.2 ∙ ap unsigned_abs day),
    )

-- each day up to the last is served
pub date_after-IsServed : (n : ℕ) → n ≤ 3_067_670 → IsServed (date_after n)
date_after-IsServed n high =
    let h = date_after-IsCounted n in
    record {
      year_low = h.year;
      year_high = year_bound n (date_after n) h high;
      month_low = h.month_low;
      month_high = h.month_high;
      day_low = h.day_low;
      day_high = h.day_high;
    }

-- and is counted by its days
pub days_before-date_after : (n : ℕ) → days_before (date_after n) ≡ n
days_before-date_after n = omega (arith, (date_after-IsCounted n).count, first_count)

-- the last day has the greatest number
pub days_before_bound : (d : CivilDate) → IsServed d → days_before d ≤ 3_067_670
days_before_bound d h =
    let low = h.year_low in
    let high = h.year_high in
    omega (arith, first_count, day_count_bounds (pos d.year) d.month d.day ((omega (arith, signed_arith), omega (arith, signed_arith)), (h.month_low, h.month_high), (h.day_low, h.day_high)))

served_date : (d : CivilDate) → IsServed d → Date
served_date d h =
    let low = h.year_low in
    let high = h.year_high in
    record {
      year = pos d.year;
      month = d.month;
      day = d.day;
      year_in = (omega (arith, signed_arith), omega (arith, signed_arith));
      month_in = (h.month_low, h.month_high);
      day_in = (h.day_low, h.day_high);
    }

-- a served date is the one that comes after its days
pub date_after-days_before : (d : CivilDate) → IsServed d → date_after (days_before d) ≡ d
unfolding served_date first_date
date_after-days_before d h =
    let after = not_before (served_date d h) d.year refl h.year_low in
    let count = days_from_civil-day_count (pos d.year) d.month d.day in
    let first = days_from_civil-day_count (pos 1601) 1 1 in
    let parts = date_after_is (days_before d) (served_date d h) (days_before_bound d h) (omega (arith, signed_arith, first_count)) in
    same_parts (date_after (days_before d)) d (ap unsigned_abs (sym parts.0)) (sym parts.1) (sym parts.2)
