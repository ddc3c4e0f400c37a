use Rattle.tab_ops.proofs.SpanLaws.{applied_in, applied_elsewhere, AreRising-applied}
use Rattle.tab_ops.proofs.laws.changes_act_on_a_span_as_on_all.Goals as goal

pub returns-clause-inside : goal.returns-clause-inside
returns-clause-inside c = applied_in

pub returns-clause-elsewhere : goal.returns-clause-elsewhere
returns-clause-elsewhere c = applied_elsewhere

pub returns-clause-rising : goal.returns-clause-rising
returns-clause-rising c = AreRising-applied
