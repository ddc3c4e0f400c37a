use Rattle.std.proofs.Common.{refl}
use Rattle.tab_drive.proofs.SessionSteps.{moved_steps}
use Rattle.tab_drive.proofs.session.Session.step.Goals as goal

pub returns-in-Now-clause-ok : goal.returns-in-Now-clause-ok
returns-in-Now-clause-ok c state keeps = rw c.in-Now.is (moved_steps c.args.keys.now state c.args.self.now _ c.in-Now.moment keeps refl refl refl refl)
