use Rattle.std.proofs.Common.{length}
use Rattle.tab_filter.proofs.window.+lower_corner.Given as goal

abbrev pub decreases-lower_corner : goal.decreases-lower_corner
decreases-lower_corner l = length l.narrowings.now
