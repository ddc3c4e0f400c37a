use Rattle.std.proofs.Common.{◌*◌, ◌≤◌, length, take}
use Rattle.std.specs.List.{flat_map}
use Rattle.tab_codec.specs.Spelling.{range_row_spelling}
use Rattle.tab_master.proofs.map_checkpoint.rows_are_short.Given as goal

abbrev pub invariant-loop-row : goal.invariant-loop-row
invariant-loop-row l = length (flat_map range_row_spelling (take l.row-index l.rows)) ≤ 6179 * l.row-index
