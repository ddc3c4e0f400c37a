use Rattle.tab_ops.proofs.GroupLaws.{rows_of_their_own}
use Rattle.tab_ops.proofs.laws.groups_have_rows_of_their_own.Goals as goal

pub returns : goal.returns
returns c = rows_of_their_own
