use Rattle.std.proofs.Common.{◌≡◌, ◌++◌, take, filter}
use Rattle.tab_ops.specs.Merges.{is_kept}
use Rattle.tab_ops.proofs.merges.joined.Given as goal

abbrev pub invariant-loop-property : goal.invariant-loop-property
invariant-loop-property l = l.all.items ≡ filter (is_kept l.given.properties) (take l.property-index l.kept_properties)

abbrev pub invariant-loop-property-2 : goal.invariant-loop-property-2
invariant-loop-property-2 l = l.all.items ≡ filter (is_kept l.given.properties) l.kept.properties ++ take l.property-index l.given_properties
