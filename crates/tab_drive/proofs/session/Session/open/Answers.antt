use Rattle.std.proofs.Common.{refl}
use Rattle.tab_drive.specs.RunStates.{opened_state}
use Rattle.tab_drive.proofs.StateSteps.{first_serving}
use Rattle.tab_drive.proofs.session.Session.open.Goals as goal

pub returns-clause-keeps : goal.returns-clause-keeps
unfolding opened_state
returns-clause-keeps c = record {
  moment = refl;
  number = refl;
  held = c.in_ok-new.ensures;
  serving = first_serving c.args.moment;
}
