use Rattle.std.proofs.Common.{◌≡◌, ◌++◌, take}
use Rattle.std.specs.List.{flat_map}
use Rattle.tab_codec.specs.Spelling.{property_spelling}
use Rattle.tab_codec.proofs.writing.put_properties.Given as goal

abbrev pub invariant-loop-property : goal.invariant-loop-property
invariant-loop-property l = l.out.items ≡ l.fn.out.items ++ flat_map property_spelling (take l.property-index l.properties)
