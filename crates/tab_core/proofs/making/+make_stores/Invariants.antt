use Rattle.std.proofs.Common.{length}
use Rattle.tab_core.proofs.making.+make_stores.Given as goal

abbrev pub decreases-make_stores : goal.decreases-make_stores
decreases-make_stores g l = length l.yard.now.items
