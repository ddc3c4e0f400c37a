use Rattle.tab_core.proofs.Opening.{openings_found}
use Rattle.tab_core.proofs.laws.openings_are_found.Goals as goal

pub returns : goal.returns
returns c = openings_found
