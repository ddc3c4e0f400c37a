use Rattle.std.proofs.Common.{length}
use Rattle.tab_filter.proofs.window.+any_too_great.Given as goal

abbrev pub decreases-any_too_great : goal.decreases-any_too_great
decreases-any_too_great l = length l.narrowings.now
