use Rattle.std.proofs.Common.{◌≡◌, length, take}
use Rattle.std.specs.List.{flat_map}
use Rattle.tab_codec.specs.Spelling.{row_spelling}
use Rattle.tab_codec.proofs.sizes.rows_size.Given as goal

abbrev pub invariant-loop-row : goal.invariant-loop-row
invariant-loop-row l = l.size ≡ length (flat_map row_spelling (take l.row-index l.rows))
