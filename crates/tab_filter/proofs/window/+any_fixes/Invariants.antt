use Rattle.std.proofs.Common.{length}
use Rattle.tab_filter.proofs.window.+any_fixes.Given as goal

abbrev pub decreases-any_fixes : goal.decreases-any_fixes
decreases-any_fixes l = length l.narrowings.now
