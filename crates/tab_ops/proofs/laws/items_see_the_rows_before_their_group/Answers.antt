use Rattle.tab_ops.proofs.GroupLaws.{each_saw_rows_before}
use Rattle.tab_ops.proofs.laws.items_see_the_rows_before_their_group.Goals as goal

pub returns : goal.returns
returns c = each_saw_rows_before
