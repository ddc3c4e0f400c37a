use Rattle.std.proofs.Common.{length}
use Rattle.tab_filter.proofs.window.+all_meet.Given as goal

abbrev pub decreases-all_meet : goal.decreases-all_meet
decreases-all_meet l = length l.narrowings.now
