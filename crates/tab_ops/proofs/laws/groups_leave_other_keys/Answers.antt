use Rattle.tab_ops.proofs.GroupLaws.{other_keys_stay}
use Rattle.tab_ops.proofs.laws.groups_leave_other_keys.Goals as goal

pub returns : goal.returns
returns c = other_keys_stay
