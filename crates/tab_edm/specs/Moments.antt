-- Moments and ETags as texts.
use Rattle.std.specs.Prelude.{◌≡◌, ◌≤◌, ◌<◌, ℕ, zero, suc, ◌+◌, ◌-◌, ◌*◌, ◌/◌, ◌%◌, ◌^◌, List, [], ◌∷◌, ◌++◌, length, take, drop, Bool, ◌&&◌, nat_lt, nat_le, Option, Some, None, if◌then◌else◌, codes, bytes_eq, pos}
use Rattle.std.specs.Str.Parse.{digits_value}
use Rattle.jiff_core.specs.Calendar.{days_in_month, day_count}
use Rattle.tab_edm.specs.declared.TheConstants.{TICKS_IN_A_SECOND}

-- a date of the calendar
pub record CivilDate : Type 0 where
  pub year : ℕ
  pub month : ℕ
  pub day : ℕ

-- the date that follows a date
unfoldable pub next_date : CivilDate → CivilDate
next_date d =
    if nat_lt d.day (days_in_month (pos d.year) d.month) then record d { day = d.day + 1 }
    else (if nat_lt d.month 12 then record { year = d.year; month = d.month + 1; day = 1 }
    else record { year = d.year + 1; month = 1; day = 1 })

-- the date that comes so many days after 1601-01-01
unfoldable pub date_after : ℕ → CivilDate
date_after zero = record { year = 1601; month = 1; day = 1 }
date_after (suc days) = next_date (date_after days)

-- the last digits of a number, so many of them
unfoldable pub last_digits : ℕ → ℕ → List ℕ
last_digits zero n = []
last_digits (suc count) n = last_digits count (n / 10) ++ (48 + n % 10) ∷ []

-- `YYYY-MM-DD`
unfoldable pub text_of_date : CivilDate → List ℕ
text_of_date d = last_digits 4 d.year ++ codes "-" ++ last_digits 2 d.month ++ codes "-" ++ last_digits 2 d.day

-- `HH:MM:SS`, with this text for each colon
unfoldable pub text_of_time : List ℕ → ℕ → ℕ → ℕ → List ℕ
text_of_time colon hour minute second =
    last_digits 2 hour ++ colon ++ last_digits 2 minute ++ colon ++ last_digits 2 second

-- `.` and so many digits of a second's fraction, where there are any, and `Z`
unfoldable pub text_of_fraction : ℕ → ℕ → List ℕ
text_of_fraction zero fraction = codes "Z"
text_of_fraction (suc count) fraction = codes "." ++ last_digits (suc count) fraction ++ codes "Z"

-- `YYYY-MM-DDTHH:MM:SS.fffffffZ`, with this text for each colon, of a number of ticks since 1601-01-01T00:00:00Z
unfoldable pub moment_with : List ℕ → ℕ → List ℕ
moment_with colon tick =
    let second = tick / TICKS_IN_A_SECOND % 86_400 in
    text_of_date (date_after (tick / 864_000_000_000)) ++ codes "T" ++ text_of_time colon (second / 3600) (second / 60 % 60) (second % 60) ++ text_of_fraction 7 (tick % TICKS_IN_A_SECOND)

-- the text of a moment
unfoldable pub text_of_moment : ℕ → List ℕ
text_of_moment tick = moment_with (codes ":") tick

-- `W/"datetime'`, the moment with `%3A` for each colon, and `'"`
unfoldable pub text_of_etag : ℕ → List ℕ
text_of_etag tick = codes "W/\"datetime'" ++ moment_with (codes "%3A") tick ++ codes "'\""

-- a real date of the years 1601 to 9999
pub record IsServed (d : CivilDate) : Type 0 where
  pub year_low : 1601 ≤ d.year
  pub year_high : d.year ≤ 9999
  pub month_low : 1 ≤ d.month
  pub month_high : d.month ≤ 12
  pub day_low : 1 ≤ d.day
  pub day_high : d.day ≤ days_in_month (pos d.year) d.month

-- the days from 1601-01-01 to a date
abbrev pub days_before : CivilDate → ℕ
days_before d = day_count (pos d.year) d.month d.day - day_count (pos 1601) 1 1

-- a text that gives this moment, with this text for each colon: a date, a time of day, and up to seven digits of a
-- second's fraction
pub record Spells (colon text : List ℕ) (tick : ℕ) : Type 0 where
  pub date : CivilDate
  pub hour : ℕ
  pub minute : ℕ
  pub second : ℕ
  pub count : ℕ
  pub fraction : ℕ
  pub date_in : IsServed date
  pub hour_in : hour ≤ 23
  pub minute_in : minute ≤ 59
  pub second_in : second ≤ 59
  pub count_in : count ≤ 7
  pub fraction_in : fraction < 10 ^ count
  pub text_is : text ≡ text_of_date date ++ codes "T" ++ text_of_time colon hour minute second ++ text_of_fraction count fraction
  pub tick_is : tick ≡ (((days_before date * 24 + hour) * 60 + minute) * 60 + second) * TICKS_IN_A_SECOND + fraction * 10 ^ (7 - count)

-- the texts of a moment that are read
abbrev pub IsMoment : List ℕ → ℕ → Type 0
IsMoment = Spells (codes ":")

-- ---- the tick as a function of the text

-- the numbers of a moment's text
pub record MomentParts : Type 0 where
  pub date : CivilDate
  pub hour : ℕ
  pub minute : ℕ
  pub second : ℕ
  pub count : ℕ
  pub fraction : ℕ

-- the number that so many digits at this offset spell
abbrev pub number_at : List ℕ → ℕ → ℕ → ℕ
number_at text at count = digits_value 10 (take count (drop at text))

-- the numbers that stand at their offsets in `YYYY-MM-DDTHH:MM:SS.fffffffZ`, with as many digits of a fraction as there are
abbrev pub parts_in : List ℕ → MomentParts
parts_in text = record {
  date = record { year = number_at text 0 4; month = number_at text 5 2; day = number_at text 8 2 };
  hour = number_at text 11 2;
  minute = number_at text 14 2;
  second = number_at text 17 2;
  count = length text - 21;
  fraction = number_at text 20 (length text - 21);
}

abbrev pub text_of_parts : MomentParts → List ℕ
text_of_parts p =
    text_of_date p.date ++ codes "T" ++ text_of_time (codes ":") p.hour p.minute p.second ++ text_of_fraction p.count p.fraction

abbrev pub is_real_date : CivilDate → Bool
is_real_date d =
    nat_le 1601 d.year && nat_le d.year 9999 && nat_le 1 d.month && nat_le d.month 12 && nat_le 1 d.day && nat_le d.day (days_in_month (pos d.year) d.month)

abbrev pub are_real_parts : MomentParts → Bool
are_real_parts p =
    is_real_date p.date && nat_le p.hour 23 && nat_le p.minute 59 && nat_le p.second 59 && nat_le p.count 7 && nat_lt p.fraction (10 ^ p.count)

abbrev pub tick_of_parts : MomentParts → ℕ
tick_of_parts p =
    (((days_before p.date * 24 + p.hour) * 60 + p.minute) * 60 + p.second) * TICKS_IN_A_SECOND + p.fraction * 10 ^ (7 - p.count)

-- the tick of the moment that a text gives, if it gives one
unfoldable pub moment_of : List ℕ → Option ℕ
moment_of text =
    if are_real_parts (parts_in text) && bytes_eq (text_of_parts (parts_in text)) text then Some (tick_of_parts (parts_in text)) else None
