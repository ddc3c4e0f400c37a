use Rattle.tab_history.proofs.NumberLaws.{drops_hide}
use Rattle.tab_history.proofs.laws.drops_hide.Goals as goal

pub returns : goal.returns
returns c = drops_hide
