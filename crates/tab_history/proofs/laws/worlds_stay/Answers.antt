use Rattle.tab_history.proofs.WorldLaws.{worlds_stay}
use Rattle.tab_history.proofs.laws.worlds_stay.Goals as goal

pub returns : goal.returns
returns c = worlds_stay
