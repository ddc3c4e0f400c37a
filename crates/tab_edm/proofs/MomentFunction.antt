-- The function from a text to its moment computes what the relation says.
use Rattle.std.proofs.Common.{◌≡◌, ℕ, zero, suc, ◌+◌, ◌-◌, ◌/◌, ◌%◌, ◌^◌, ◌<◌, ◌≤◌, ◌↔◌, List, length, take, drop, Bool, true, false, ◌&&◌, cond, Option, Some, None, bytes_eq, codes, refl, sym, ap, subst, ◌∙◌, arith, length-drop, if◌then◌else◌}
use Rattle.std.proofs.lemmas.Bool.{and_parts, and_from, leb-true, le-leb, ltb-true, lt-ltb}
use Rattle.std.proofs.lemmas.Int.Digits.{digits_value_push}
use Rattle.std.proofs.lemmas.Slice.Eq.{bytes_eq-Decides}
use Rattle.std.proofs.lemmas.Str.{digit_value_digit}
use Rattle.std.proofs.lemmas.Option.{none-some, same_Some}
use Rattle.std.proofs.lemmas.List.{drop-take, take-take, drop-drop, take_rest}
use Rattle.std.proofs.Math.Nat.{pow-suc}
use Rattle.std.specs.Str.Parse.{digits_value}
use Rattle.tab_edm.specs.Moments.{CivilDate, IsServed, IsMoment, last_digits, text_of_fraction, MomentParts, number_at, parts_in, text_of_parts, is_real_date, are_real_parts, tick_of_parts, moment_of}
use Rattle.tab_edm.proofs.Dates.{same_parts}
use Rattle.tab_edm.proofs.Digits.{last_digits_none, last_digits_more}
use Rattle.tab_edm.proofs.Pieces.{fields_of_date, fields_of_time, fields_of_fraction}
use Rattle.tab_edm.proofs.Readings.{spelled_fields, day_small}

-- the last digits of a number write the number
pub digits_value-last_digits : (count n : ℕ) → n < 10 ^ count → digits_value 10 (last_digits count n) ≡ n
digits_value-last_digits zero n h = rw last_digits_none (omega arith)
digits_value-last_digits (suc count) n h =
    let front = digits_value-last_digits count (n / 10) (omega (arith, pow-suc 10 count)) in
    let digit = digit_value_digit (48 + n % 10) (omega arith, omega arith) in
    rw (last_digits_more, digits_value_push, front) (omega arith)

-- a number whose digits stand at an offset
pub number_there : (text : List ℕ) (at count n : ℕ) → n < 10 ^ count → take count (drop at text) ≡ last_digits count n → number_at text at count ≡ n
number_there text at count n small is = ap (digits_value 10) is ∙ digits_value-last_digits count n small

-- ---- the parts of a text that gives a moment

-- a piece of a piece
inner : (text : List ℕ) (from k i n : ℕ) → i + n ≤ k → take n (drop i (take k (drop from text))) ≡ take n (drop (from + i) text)
inner text from k i n within =
    let rest : k ≡ i + (k - i) = omega arith in
    rw (rest, drop-take, take-take n (k - i) _ (omega arith), drop-drop) refl

-- what a text that gives a moment has at its offsets
record HasParts (text : List ℕ) (p : MomentParts) : Type 0 where
  year : number_at text 0 4 ≡ p.date.year
  month : number_at text 5 2 ≡ p.date.month
  day : number_at text 8 2 ≡ p.date.day
  hour : number_at text 11 2 ≡ p.hour
  minute : number_at text 14 2 ≡ p.minute
  second : number_at text 17 2 ≡ p.second
  count : length text - 21 ≡ p.count
  fraction : number_at text 20 p.count ≡ p.fraction

same_moment : (p q : MomentParts) → p.date ≡ q.date → p.hour ≡ q.hour → p.minute ≡ q.minute → p.second ≡ q.second → p.count ≡ q.count → p.fraction ≡ q.fraction → p ≡ q
same_moment p q date hour minute second count fraction = λ i. record { date = date i; hour = hour i; minute = minute i; second = second i; count = count i; fraction = fraction i }

parts_are : (text : List ℕ) (p : MomentParts) → HasParts text p → parts_in text ≡ p
parts_are text p h =
    same_moment (parts_in text) p (same_parts (parts_in text).date p.date h.year h.month h.day) h.hour h.minute h.second h.count
    (ap (number_at text 20) h.count ∙ h.fraction)

abbrev spelled_parts : (text : List ℕ) (tick : ℕ) → IsMoment text tick → MomentParts
spelled_parts text tick s = record { date = s.date; hour = s.hour; minute = s.minute; second = s.second; count = s.count; fraction = s.fraction }

fraction_there : (text : List ℕ) (count fraction : ℕ) → 19 ≤ length text → take (length text - 19) (drop 19 text) ≡ text_of_fraction count fraction → fraction < 10 ^ count
    → (length text - 21 ≡ count) × (number_at text 20 count ≡ fraction)
unfolding text_of_fraction
fraction_there text zero fraction long is small =
    let rest : length text - 19 ≡ 1 = sym (length-drop 19 text) ∙ ap length (sym (take_rest text 19) ∙ is) in (omega arith, omega arith)
fraction_there text (suc count) fraction long is small =
    let f = fields_of_fraction _ count fraction is in
    let rest : length text - 19 ≡ suc count + 2 = sym (length-drop 19 text) ∙ ap length (sym (take_rest text 19)) ∙ f.long in (
      omega arith,
      number_there text 20 (suc count) fraction small (sym (inner text 19 (length text - 19) 1 (suc count) (omega arith)) ∙ f.digits),
    )

has_parts : (text : List ℕ) (tick : ℕ) (s : IsMoment text tick) → HasParts text (spelled_parts text tick s)
has_parts text tick s =
    let f = spelled_fields (codes ":") text tick s in
    let d = fields_of_date (take 10 text) s.date f.dates in
    let t = fields_of_time (codes ":") _ s.hour s.minute s.second f.times in
    let served = s.date_in in
    let fraction = fraction_there text s.count s.fraction f.long f.fractions s.fraction_in in
    record {
      year = number_there text 0 4 s.date.year (omega (arith, served.year_high)) (sym (inner text 0 10 0 4 (omega arith)) ∙ d.year);
      month = number_there text 5 2 s.date.month (omega (arith, served.month_high)) (sym (inner text 0 10 5 2 (omega arith)) ∙ d.month);
      day = number_there text 8 2 s.date.day (day_small s.date served) (sym (inner text 0 10 8 2 (omega arith)) ∙ d.day);
      hour = number_there text 11 2 s.hour (omega (arith, s.hour_in)) (sym (inner text 11 8 0 2 (omega arith)) ∙ t.hours);
      minute = number_there text 14 2 s.minute (omega (arith, s.minute_in)) (sym (inner text 11 8 3 2 (omega arith)) ∙ t.minutes);
      second = number_there text 17 2 s.second (omega (arith, s.second_in)) (sym (inner text 11 8 6 2 (omega arith)) ∙ t.seconds);
      count = fraction.0;
      fraction = fraction.1;
    }

-- ---- the tests of the parts

real_date : (d : CivilDate) → IsServed d → is_real_date d ≡ true
real_date d s =
    and_from _ _
    (and_from _ _
    (and_from _ _
    (and_from _ _ (and_from _ _ (le-leb 1601 d.year s.year_low) (le-leb d.year 9999 s.year_high)) (le-leb 1 d.month s.month_low))
    (le-leb d.month 12 s.month_high))
    (le-leb 1 d.day s.day_low))
    (le-leb d.day _ s.day_high)

served_date : (d : CivilDate) → is_real_date d ≡ true → IsServed d
served_date d e =
    let days = and_parts _ _ e in
    let day = and_parts _ _ days.0 in
    let months = and_parts _ _ day.0 in
    let month = and_parts _ _ months.0 in
    let years = and_parts _ _ month.0 in
    record {
      year_low = leb-true 1601 d.year years.0;
      year_high = leb-true d.year 9999 years.1;
      month_low = leb-true 1 d.month month.1;
      month_high = leb-true d.month 12 months.1;
      day_low = leb-true 1 d.day day.1;
      day_high = leb-true d.day _ days.1;
    }

real_parts : (text : List ℕ) (tick : ℕ) (s : IsMoment text tick) → are_real_parts (spelled_parts text tick s) ≡ true
real_parts text tick s =
    and_from _ _
    (and_from _ _
    (and_from _ _
    (and_from _ _ (and_from _ _ (real_date s.date s.date_in) (le-leb s.hour 23 s.hour_in)) (le-leb s.minute 59 s.minute_in))
    (le-leb s.second 59 s.second_in))
    (le-leb s.count 7 s.count_in))
    (lt-ltb s.fraction (10 ^ s.count) s.fraction_in)

spelled_from : (text : List ℕ) (p : MomentParts) → are_real_parts p ≡ true → text_of_parts p ≡ text → IsMoment text (tick_of_parts p)
spelled_from text p real is =
    let fraction = and_parts _ _ real in
    let count = and_parts _ _ fraction.0 in
    let second = and_parts _ _ count.0 in
    let minute = and_parts _ _ second.0 in
    let hour = and_parts _ _ minute.0 in
    record {
      date = p.date;
      hour = p.hour;
      minute = p.minute;
      second = p.second;
      count = p.count;
      fraction = p.fraction;
      date_in = served_date p.date hour.0;
      hour_in = leb-true p.hour 23 hour.1;
      minute_in = leb-true p.minute 59 minute.1;
      second_in = leb-true p.second 59 second.1;
      count_in = leb-true p.count 7 count.1;
      fraction_in = ltb-true p.fraction (10 ^ p.count) fraction.1;
      text_is = sym is;
      tick_is = refl;
    }

-- ---- both ways

abbrev moment_by : MomentParts → List ℕ → Option ℕ
moment_by p text = if are_real_parts p && bytes_eq (text_of_parts p) text then Some (tick_of_parts p) else None

by_parts : (p : MomentParts) (text : List ℕ) (tick : ℕ) → are_real_parts p ≡ true → text_of_parts p ≡ text → tick ≡ tick_of_parts p → moment_by p text ≡ Some tick
by_parts p text tick real is same = rw (real, (bytes_eq-Decides (text_of_parts p) text).1 is) (ap (λ (t : ℕ). Some t) (sym same))

pub moment_given : (text : List ℕ) (tick : ℕ) → IsMoment text tick → moment_of text ≡ Some tick
unfolding moment_of
moment_given text tick s =
    ap (λ (p : MomentParts). moment_by p text) (parts_are text (spelled_parts text tick s) (has_parts text tick s))
    ∙ by_parts (spelled_parts text tick s) text tick (real_parts text tick s) (sym s.text_is) s.tick_is

found_by : (p : MomentParts) (text : List ℕ) (tick : ℕ) (test : Bool) → are_real_parts p && bytes_eq (text_of_parts p) text ≡ test → cond test (Some (tick_of_parts p)) None ≡ Some tick → IsMoment text tick
found_by p text tick true e is =
    let parts : (are_real_parts p ≡ true) × (bytes_eq (text_of_parts p) text ≡ true) = and_parts _ _ e in
    subst (IsMoment text) (same_Some _ _ is) (spelled_from text p parts.0 ((bytes_eq-Decides (text_of_parts p) text).0 parts.1))
found_by p text tick false e is = absurd (none-some tick is)

pub moment_found : (text : List ℕ) (tick : ℕ) → moment_of text ≡ Some tick → IsMoment text tick
unfolding moment_of
moment_found text tick e = found_by (parts_in text) text tick _ refl e

-- an answer that is right for each moment is the function's
same_option : (o p : Option ℕ) → ((t : ℕ) → o ≡ Some t → p ≡ Some t) → ((t : ℕ) → p ≡ Some t → o ≡ Some t) → o ≡ p
same_option (Some t) p to from = sym (to t refl)
same_option None None to from = refl
same_option None (Some t) to from = from t refl

pub moment_of-exact : (text : List ℕ) (o : Option ℕ) → ((t : ℕ) → (o ≡ Some t) ↔ IsMoment text t) → o ≡ moment_of text
moment_of-exact text o exact =
    same_option o (moment_of text) (λ t e. moment_given text t ((exact t).0 e)) (λ t e. (exact t).1 (moment_found text t e))
