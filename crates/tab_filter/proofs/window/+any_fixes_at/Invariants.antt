use Rattle.std.proofs.Common.{length}
use Rattle.tab_filter.proofs.window.+any_fixes_at.Given as goal

abbrev pub decreases-any_fixes_at : goal.decreases-any_fixes_at
decreases-any_fixes_at l = length l.narrowings.now
