use Rattle.std.proofs.Common.{◌≡◌, flat_map, take}
use Rattle.tab_json.specs.Entities.{property_members}
use Rattle.tab_json.specs.Objects.{with_members}
use Rattle.tab_json.specs.Written.{written_members}
use Rattle.tab_json.proofs.members_written.put_properties.Given as goal

abbrev pub invariant-loop-property : goal.invariant-loop-property
invariant-loop-property l =
    written_members l.members ≡ with_members (written_members l.fn.members) (flat_map (property_members l.form) (take l.property-index l.property-items))
