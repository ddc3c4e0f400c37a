use Rattle.std.proofs.Common.{arith, refl}
use Rattle.std.proofs.lemmas.Bool.{false≢true}
use Rattle.tab_edm.proofs.Pieces.{fields_of_time}
use Rattle.tab_edm.proofs.Readings.{time_same, time_read}
use Rattle.tab_edm.proofs.moments.read_time.Goals as goal
use Rattle.tab_edm.proofs.moments.read_time.Goals.{then-text-width-via-then-text-width, then-text-width-via-else-text-width+then-not-has_at, then-text-width-via-else-text-width+else-not-has_at+then-not-has_at-2}

pub returns-then-text-width : goal.returns-then-text-width
returns-then-text-width c = λ hour minute second hour_in minute_in second_in is.
    let f = fields_of_time c.args.colon.now c.args.text.now hour minute second is in
    elim c.then-text-width.branch [
      | then-text-width-via-then-text-width w ↦ w.if-text-width.true f.long
      | then-text-width-via-else-text-width+then-not-has_at w ↦ false≢true (w.if-not-has_at.ensures.1 f.first_colon)
      | then-text-width-via-else-text-width+else-not-has_at+then-not-has_at-2 w ↦ false≢true (w.if-not-has_at-2.ensures.1 f.second_colon)
    ]

pub returns-in_err-hour : goal.returns-in_err-hour
returns-in_err-hour c =
    rw c.from_residual.ensures (λ hour minute second hour_in minute_in second_in is. c.in_err-hour.ensures hour (omega arith) (fields_of_time c.args.colon.now c.args.text.now hour minute second is).hours)

pub returns-in_err-minute : goal.returns-in_err-minute
returns-in_err-minute c =
    rw c.from_residual-in_err-minute.ensures (λ hour minute second hour_in minute_in second_in is. c.in_err-minute.ensures minute (omega arith) (fields_of_time c.args.colon.now c.args.text.now hour minute second is).minutes)

pub returns-in_err-second : goal.returns-in_err-second
returns-in_err-second c =
    rw c.from_residual-in_err-second.ensures (λ hour minute second hour_in minute_in second_in is. c.in_err-second.ensures second (omega arith) (fields_of_time c.args.colon.now c.args.text.now hour minute second is).seconds)

pub returns-then-hour-gt-LAST_HOUR : goal.returns-then-hour-gt-LAST_HOUR
returns-then-hour-gt-LAST_HOUR c = λ hour minute second hour_in minute_in second_in is.
    let same = time_same c.args.colon.now c.args.text.now hour minute second c.in_ok-hour.hour c.in_ok-minute.minute c.in_ok-second.second c.in_ok-hour.ensures.0 c.in_ok-minute.ensures.0 c.in_ok-second.ensures.0 (record {
      long = c.if-text-width.false;
      first_colon = c.if-not-has_at.ensures.0 refl;
      second_colon = c.if-not-has_at-2.ensures.0 refl;
      hours = c.in_ok-hour.ensures.1;
      minutes = c.in_ok-minute.ensures.1;
      seconds = c.in_ok-second.ensures.1;
    }) hour_in minute_in second_in is in
    let either = c.then-hour-gt-LAST_HOUR.either in
    omega arith

pub returns : goal.returns
returns c =
    time_read c.args.colon.now c.args.text.now c.in_ok-hour.hour c.in_ok-minute.minute c.in_ok-second.second (record {
      long = c.if-text-width.false;
      first_colon = c.if-not-has_at.ensures.0 refl;
      second_colon = c.if-not-has_at-2.ensures.0 refl;
      hours = c.in_ok-hour.ensures.1;
      minutes = c.in_ok-minute.ensures.1;
      seconds = c.in_ok-second.ensures.1;
    }) c.if-hour-gt-LAST_HOUR.false c.if-minute-gt-LAST_MINUTE.false c.if-second-gt-LAST_SECOND.false
