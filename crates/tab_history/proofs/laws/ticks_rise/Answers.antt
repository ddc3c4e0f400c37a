use Rattle.tab_history.proofs.TickLaws.{ticks_rise}
use Rattle.tab_history.proofs.laws.ticks_rise.Goals as goal

pub returns : goal.returns
returns c = ticks_rise
