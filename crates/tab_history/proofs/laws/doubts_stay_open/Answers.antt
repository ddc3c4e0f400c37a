use Rattle.tab_history.proofs.DoubtLaws.{doubts_stay}
use Rattle.tab_history.proofs.laws.doubts_stay_open.Goals as goal

pub returns : goal.returns
returns c = doubts_stay
