use Rattle.tab_ops.proofs.SpanLaws.{group_in, group_beside, group_elsewhere}
use Rattle.tab_ops.proofs.laws.groups_act_on_a_span_as_on_all.Goals as goal

pub returns-clause-inside : goal.returns-clause-inside
returns-clause-inside c = group_in

pub returns-clause-beside : goal.returns-clause-beside
returns-clause-beside c = group_beside

pub returns-clause-elsewhere : goal.returns-clause-elsewhere
returns-clause-elsewhere c = group_elsewhere
