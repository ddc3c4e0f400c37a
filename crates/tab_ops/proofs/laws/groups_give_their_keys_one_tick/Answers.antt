use Rattle.tab_ops.proofs.GroupLaws.{kept_or_put}
use Rattle.tab_ops.proofs.laws.groups_give_their_keys_one_tick.Goals as goal

pub returns : goal.returns
returns c = kept_or_put
