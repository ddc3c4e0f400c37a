use Rattle.tab_ops.proofs.GroupLaws.{AreRising-rows_after}
use Rattle.tab_ops.proofs.laws.groups_keep_order.Goals as goal

pub returns : goal.returns
returns c = λ rows after table tick group rising h. AreRising-rows_after 0 rows table tick group after rising h
