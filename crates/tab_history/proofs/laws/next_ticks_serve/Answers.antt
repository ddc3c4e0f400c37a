use Rattle.tab_history.proofs.RangeLaws.{may_have_next_in, ticks_serve}
use Rattle.tab_history.proofs.laws.next_ticks_serve.Goals as goal

pub returns-clause-may : goal.returns-clause-may
returns-clause-may c = may_have_next_in

pub returns-clause-kept : goal.returns-clause-kept
returns-clause-kept c = ticks_serve
