use Rattle.std.proofs.Common.{arith, refl}
use Rattle.std.proofs.lemmas.Bool.{false≢true}
use Rattle.tab_edm.proofs.Readings.{moment_read, spelled_fields}
use Rattle.tab_edm.proofs.moments.read_tick.Goals as goal
use Rattle.tab_edm.proofs.moments.read_tick.Goals.{then-text-time_end-via-then-text-time_end, then-text-time_end-via-else-text-time_end+then-not-has_at}

pub returns-then-text-time_end : goal.returns-then-text-time_end
returns-then-text-time_end c = λ tick spelled.
    let f = spelled_fields c.args.colon.now c.args.text.now tick spelled in
    let long = f.long in
    elim c.then-text-time_end.branch [
      | then-text-time_end-via-then-text-time_end w ↦ omega arith
      | then-text-time_end-via-else-text-time_end+then-not-has_at w ↦ false≢true (w.if-not-has_at.ensures.1 f.mark)
    ]

pub returns-in_err-days : goal.returns-in_err-days
returns-in_err-days c =
    rw c.from_residual.ensures (λ tick spelled. c.in_err-days.ensures spelled.date spelled.date_in (spelled_fields c.args.colon.now c.args.text.now tick spelled).dates)

pub returns-in_err-second : goal.returns-in_err-second
returns-in_err-second c =
    rw c.from_residual-in_err-second.ensures (λ tick spelled. c.in_err-second.ensures spelled.hour spelled.minute spelled.second spelled.hour_in spelled.minute_in spelled.second_in (spelled_fields c.args.colon.now c.args.text.now tick spelled).times)

pub returns-in_err-fraction : goal.returns-in_err-fraction
returns-in_err-fraction c =
    rw c.from_residual-in_err-fraction.ensures (λ tick spelled. c.in_err-fraction.ensures spelled.count spelled.fraction spelled.count_in spelled.fraction_in (spelled_fields c.args.colon.now c.args.text.now tick spelled).fractions)

pub returns : goal.returns
returns c =
    let tail = c.in_ok-fraction.ensures in
    moment_read c.args.colon.now c.args.text.now c.in_ok-days.days c.in_ok-second.second c.in_ok-fraction.fraction tail.0 tail.1 c.in_ok-days.ensures.0 c.in_ok-second.ensures.0 tail.2 tail.3 tail.5 (record {
      long = c.if-text-time_end.false;
      dates = c.in_ok-days.ensures.1;
      mark = c.if-not-has_at.ensures.0 refl;
      times = c.in_ok-second.ensures.1;
      fractions = tail.4;
    })
