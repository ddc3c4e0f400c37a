use Rattle.tab_filter.proofs.WindowEdges.{reaches_up_to}
use Rattle.tab_filter.proofs.window.window_reaches_its_keys.Goals as goal

pub returns : goal.returns
returns c = reaches_up_to
