use Rattle.tab_history.proofs.RangeLaws.{held_here, held_there, alike_acted}
use Rattle.tab_history.proofs.laws.changes_stay_in_their_range.Goals as goal

pub returns-clause-here : goal.returns-clause-here
returns-clause-here c = held_here

pub returns-clause-there : goal.returns-clause-there
returns-clause-there c = held_there

pub returns-clause-alike : goal.returns-clause-alike
returns-clause-alike c = alike_acted
