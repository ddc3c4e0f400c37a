use Rattle.std.proofs.Common.{arith, w8, w16}
use Rattle.std.proofs.lemmas.Bool.{false≢true}
use Rattle.std.proofs.lemmas.Int.{to_z_pos}
use Rattle.tab_edm.proofs.Dates.{served_is_date, days_to_date}
use Rattle.tab_edm.proofs.moments.days_to.Goals as goal

pub returns-in-Ok : goal.returns-in-Ok
returns-in-Ok c =
    let year = to_z_pos w16 c.args.year (omega arith) in
    let month = to_z_pos w8 c.args.month (omega arith) in
    let day = to_z_pos w8 c.args.day (omega arith) in
    let h = days_to_date (record { year = c.args.year; month = c.args.month; day = c.args.day }) c.in-Ok.date c.days_since_min.result c.if-year-lt-FIRST_YEAR.false (omega arith) (rw (year, month, day) at c.in-Ok.ensures.value) c.days_since_min.ensures.value c.days_since_min.ensures.bound in
    (h.1, h.2)

pub overflow_sub-result : goal.overflow_sub-result
overflow_sub-result c =
    let year = to_z_pos w16 c.args.year (omega arith) in
    let month = to_z_pos w8 c.args.month (omega arith) in
    let day = to_z_pos w8 c.args.day (omega arith) in
    (days_to_date (record { year = c.args.year; month = c.args.month; day = c.args.day }) c.in-Ok.date c.days_since_min.result c.if-year-lt-FIRST_YEAR.false (omega arith) (rw (year, month, day) at c.in-Ok.ensures.value) c.days_since_min.ensures.value c.days_since_min.ensures.bound).0

pub returns-in-Err : goal.returns-in-Err
returns-in-Err c = λ served.
    let year = to_z_pos w16 c.args.year (omega arith) in
    let month = to_z_pos w8 c.args.month (omega arith) in
    let day = to_z_pos w8 c.args.day (omega arith) in
    false≢true (c.in-Err.ensures.succeeds.1 (rw (year, month, day) (served_is_date _ served)))
