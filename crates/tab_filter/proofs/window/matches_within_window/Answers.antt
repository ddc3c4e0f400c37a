use Rattle.tab_filter.proofs.WindowLaws.{within_window}
use Rattle.tab_filter.proofs.window.matches_within_window.Goals as goal

pub returns : goal.returns
returns c = within_window
