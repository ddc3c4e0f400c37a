use Rattle.tab_ops.proofs.MergeLaws.{refused_past_limits}
use Rattle.tab_ops.proofs.laws.merges_are_refused_past_limits.Goals as goal

pub returns : goal.returns
returns c = refused_past_limits
