use Rattle.tab_filter.proofs.WindowEdges.{starts_low}
use Rattle.tab_filter.proofs.window.window_starts_low.Goals as goal

pub returns : goal.returns
returns c = starts_low
