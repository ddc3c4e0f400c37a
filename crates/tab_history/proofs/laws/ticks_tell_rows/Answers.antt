use Rattle.tab_history.proofs.TickLaws.{ticks_tell_rows}
use Rattle.tab_history.proofs.laws.ticks_tell_rows.Goals as goal

pub returns : goal.returns
returns c = ticks_tell_rows
