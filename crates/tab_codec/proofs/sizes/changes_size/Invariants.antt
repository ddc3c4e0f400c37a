use Rattle.std.proofs.Common.{◌≡◌, length, take}
use Rattle.std.specs.List.{flat_map}
use Rattle.tab_codec.specs.Spelling.{change_spelling}
use Rattle.tab_codec.proofs.sizes.changes_size.Given as goal

abbrev pub invariant-loop-change : goal.invariant-loop-change
invariant-loop-change l = l.size ≡ length (flat_map change_spelling (take l.change-index l.changes))
