use Rattle.std.proofs.Common.{rules, refl}
use Rattle.tab_batch.specs.Parts.{ranges_of}
use Rattle.tab_batch.proofs.bodies.behind_delimiter.Goals as goal

pub loop-line-init : goal.loop-line-init
unfolding ranges_of
loop-line-init c = record { within = search rules; left = refl }
