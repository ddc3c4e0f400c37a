use Rattle.tab_ops.proofs.MergeLaws.{values_by_name}
use Rattle.tab_ops.proofs.laws.merges_give_values_by_name.Goals as goal

pub returns : goal.returns
returns c = values_by_name
