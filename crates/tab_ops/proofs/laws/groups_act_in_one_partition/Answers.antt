use Rattle.tab_ops.proofs.GroupLaws.{in_one_partition}
use Rattle.tab_ops.proofs.laws.groups_act_in_one_partition.Goals as goal

pub returns : goal.returns
returns c = in_one_partition
