use Rattle.tab_filter.proofs.LimitLaws.{placed}
use Rattle.tab_filter.proofs.laws.refusals_are_placed.Goals as goal

pub returns : goal.returns
returns c = placed
