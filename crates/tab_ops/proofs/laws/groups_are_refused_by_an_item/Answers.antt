use Rattle.tab_ops.proofs.GroupLaws.{refused_by_item}
use Rattle.tab_ops.proofs.laws.groups_are_refused_by_an_item.Goals as goal

pub returns : goal.returns
returns c = refused_by_item
