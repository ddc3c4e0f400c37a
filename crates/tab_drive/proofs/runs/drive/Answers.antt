use Rattle.std.proofs.Common.{refl, arith}
use Rattle.tab_drive.proofs.Completeness.{completed, status_listed}
use Rattle.tab_drive.proofs.runs.drive.Goals as goal

pub returns-in-Ok-clause-status : goal.returns-in-Ok-clause-status
returns-in-Ok-clause-status g c = rw c.status_of.ensures (status_listed c.in-Ok.served.stop)

pub returns-in-Ok-clause-complete : goal.returns-in-Ok-clause-complete
returns-in-Ok-clause-complete g c bytes told servable sound kept =
    rw c.status_of.ensures
    (completed c.args.keys.now bytes c.args.moment _ _ _ c.in-Ok.served.stop _ _ told servable c.in-Ok.ensures.stops c.in-Ok.ensures.read_fault
    (λ is. let rose = c.in-Ok.ensures.write_fault is in omega (arith, rose, c.write_last_line.ensures.later)) sound kept)

pub returns-in-Err-clause-status : goal.returns-in-Err-clause-status
returns-in-Err-clause-status g c = rw c.said_only.ensures.status (6, omega arith, refl)
