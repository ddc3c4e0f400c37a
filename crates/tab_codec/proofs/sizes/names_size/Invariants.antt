use Rattle.std.proofs.Common.{◌≡◌, length, take}
use Rattle.std.specs.List.{flat_map}
use Rattle.tab_codec.specs.Spelling.{name_spelling}
use Rattle.tab_codec.proofs.sizes.names_size.Given as goal

abbrev pub invariant-loop-name : goal.invariant-loop-name
invariant-loop-name l = l.size ≡ length (flat_map name_spelling (take l.name-index l.names))
