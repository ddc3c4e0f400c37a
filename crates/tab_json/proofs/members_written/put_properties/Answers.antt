use Rattle.std.proofs.Common.{sym}
use Rattle.tab_json.specs.Entities.{property_members}
use Rattle.tab_json.specs.Written.{written_members}
use Rattle.tab_json.proofs.ObjectLemmas.{with_members-nil, put_more}
use Rattle.tab_json.proofs.members_written.put_properties.Goals as goal

pub loop-property-init : goal.loop-property-init
loop-property-init c = sym (with_members-nil (written_members c.args.members.now))

pub loop-property-preserved : goal.loop-property-preserved
loop-property-preserved c =
    put_more (property_members c.args.form.now) c.properties-property-items.result.now c.loop-property.property-index c.property-item.result
    _ _ _ c.loop-property-test.true c.property-item.is c.loop-property.invariant c.in_ok-put_property.ensures
