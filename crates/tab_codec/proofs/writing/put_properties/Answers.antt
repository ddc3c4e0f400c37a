use Rattle.std.proofs.Common.{arith}
use Rattle.tab_codec.specs.Spelling.{property_spelling}
use Rattle.tab_codec.proofs.Sums.{part_within}
use Rattle.tab_codec.proofs.Sums.{put_more}
use Rattle.tab_codec.proofs.writing.put_properties.Goals as goal

pub put_property-requires : goal.put_property-requires
put_property-requires c = omega (arith, c.requires, part_within property_spelling c.args.properties.now c.loop-property.property-index c.property-item.result c.loop-property-test.true c.property-item.is)

pub loop-property-preserved : goal.loop-property-preserved
loop-property-preserved c = put_more property_spelling c.args.properties.now c.loop-property.property-index c.property-item.result c.args.out.now.items c.loop-property.out.items c.put_property.new.out.items c.loop-property-test.true c.property-item.is c.loop-property.invariant c.in_ok-put_property.ensures
