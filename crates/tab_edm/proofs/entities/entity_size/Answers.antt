use Rattle.std.proofs.Common.{arith}
use Rattle.std.proofs.lemmas.Grind.{common_steps}
use Rattle.tab_edm.specs.Entities.{entity_size}
use Rattle.tab_edm.proofs.Refusals.{each_allowed}
use Rattle.tab_edm.proofs.entities.entity_size.Goals as goal

pub size-requires : goal.size-requires
size-requires c = rw c.property-item.is (each_allowed c.args.properties.now c.requires.allowed _ _ c.loop-property-test.true)

pub returns : goal.returns
unfolding entity_size
returns c = grind (arith, common_steps)
