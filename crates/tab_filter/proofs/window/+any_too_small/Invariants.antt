use Rattle.std.proofs.Common.{length}
use Rattle.tab_filter.proofs.window.+any_too_small.Given as goal

abbrev pub decreases-any_too_small : goal.decreases-any_too_small
decreases-any_too_small l = length l.narrowings.now
