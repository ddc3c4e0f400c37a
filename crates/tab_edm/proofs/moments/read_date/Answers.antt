use Rattle.std.proofs.Common.{arith, refl}
use Rattle.std.proofs.lemmas.Bool.{false≢true}
use Rattle.tab_edm.proofs.Pieces.{fields_of_date}
use Rattle.tab_edm.proofs.Readings.{date_read, day_small}
use Rattle.tab_edm.proofs.moments.read_date.Goals as goal
use Rattle.tab_edm.proofs.moments.read_date.Goals.{then-text-ne10-via-then-text-ne10, then-text-ne10-via-else-text-ne10+then-not-has_at, then-text-ne10-via-else-text-ne10+else-not-has_at+then-not-has_at-2}

pub returns-then-text-ne10 : goal.returns-then-text-ne10
returns-then-text-ne10 c = λ d served is.
    let f = fields_of_date c.args.text.now d is in
    elim c.then-text-ne10.branch [
      | then-text-ne10-via-then-text-ne10 w ↦ w.if-text-ne10.true f.long
      | then-text-ne10-via-else-text-ne10+then-not-has_at w ↦ false≢true (w.if-not-has_at.ensures.1 f.first_dash)
      | then-text-ne10-via-else-text-ne10+else-not-has_at+then-not-has_at-2 w ↦ false≢true (w.if-not-has_at-2.ensures.1 f.second_dash)
    ]

pub returns-in_err-year : goal.returns-in_err-year
returns-in_err-year c =
    rw c.from_residual.ensures (λ d served is. let high = served.year_high in c.in_err-year.ensures d.year (omega arith) (fields_of_date c.args.text.now d is).year)

pub returns-in_err-month : goal.returns-in_err-month
returns-in_err-month c =
    rw c.from_residual-in_err-month.ensures (λ d served is. let high = served.month_high in c.in_err-month.ensures d.month (omega arith) (fields_of_date c.args.text.now d is).month)

pub returns-in_err-day : goal.returns-in_err-day
returns-in_err-day c =
    rw c.from_residual-in_err-day.ensures (λ d served is. c.in_err-day.ensures d.day (day_small d served) (fields_of_date c.args.text.now d is).day)

pub returns : goal.returns
returns c =
    date_read c.args.text.now (record { year = c.in_ok-year.year; month = c.in_ok-month.month; day = c.in_ok-day.day }) c.days_to.result
    c.in_ok-year.ensures.0 c.in_ok-month.ensures.0 c.in_ok-day.ensures.0
    (record {
      long = c.if-text-ne10.false;
      first_dash = c.if-not-has_at.ensures.0 refl;
      second_dash = c.if-not-has_at-2.ensures.0 refl;
      year = c.in_ok-year.ensures.1;
      month = c.in_ok-month.ensures.1;
      day = c.in_ok-day.ensures.1;
    })
    c.days_to.ensures
