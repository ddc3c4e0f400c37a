-- The texts of known moments.
use Rattle.std.proofs.Common.{◌≡◌, refl}
use Rattle.std.specs.Prelude.{codes}
use Rattle.tab_edm.specs.Moments.{next_date, date_after, last_digits, text_of_date, text_of_time, text_of_fraction, moment_with, text_of_moment, text_of_etag}

-- the first moment
pub first_moment : text_of_moment 0 ≡ codes "1601-01-01T00:00:00.0000000Z"
unfolding next_date date_after last_digits text_of_date text_of_time text_of_fraction moment_with text_of_moment
first_moment = refl

-- the last tick of a month
pub last_of_month : text_of_moment 50_975_999_999_999 ≡ codes "1601-02-28T23:59:59.9999999Z"
unfolding next_date date_after last_digits text_of_date text_of_time text_of_fraction moment_with text_of_moment
last_of_month = refl

-- the first leap day
pub leap_day : text_of_moment 997_056_000_000_000 ≡ codes "1604-02-29T00:00:00.0000000Z"
unfolding next_date date_after last_digits text_of_date text_of_time text_of_fraction moment_with text_of_moment
leap_day = refl

-- the first ETag
pub first_etag : text_of_etag 0 ≡ codes "W/\"datetime'1601-01-01T00%3A00%3A00.0000000Z'\""
unfolding next_date date_after last_digits text_of_date text_of_time text_of_fraction moment_with text_of_etag
first_etag = refl
