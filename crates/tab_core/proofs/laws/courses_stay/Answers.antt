use Rattle.tab_core.proofs.Staying.{courses_stay}
use Rattle.tab_core.proofs.laws.courses_stay.Goals as goal

pub returns : goal.returns
returns c = courses_stay
