use Rattle.tab_server.proofs.Accepted.{fits_answer}
use Rattle.tab_server.proofs.laws.accepted_changes_fit.Goals as goal

pub returns : goal.returns
returns g c = fits_answer c.args._held.now c.args._step.now c.requires
