use Rattle.std.proofs.Common.{refl}
use Rattle.tab_edm.specs.Moments.{last_digits, text_of_date, text_of_time, text_of_fraction, moment_with, text_of_etag}
use Rattle.tab_edm.proofs.moments.etag_bytes.Goals as goal

pub returns : goal.returns
unfolding last_digits text_of_date text_of_time text_of_fraction moment_with text_of_etag
returns c =
    rw (c.digits_of-at.ensures.year, c.digits_of-at.ensures.month, c.digits_of-at.ensures.day, c.digits_of-at.ensures.hour, c.digits_of-at.ensures.minute, c.digits_of-at.ensures.second, c.digits_of-at.ensures.fraction) refl
