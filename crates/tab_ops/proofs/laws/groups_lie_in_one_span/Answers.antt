use Rattle.tab_ops.proofs.SpanLaws.{keys_in_one_span, keys_in_no_other}
use Rattle.tab_ops.proofs.laws.groups_lie_in_one_span.Goals as goal

pub returns-clause-inside : goal.returns-clause-inside
returns-clause-inside c = keys_in_one_span

pub returns-clause-outside : goal.returns-clause-outside
returns-clause-outside c = keys_in_no_other
