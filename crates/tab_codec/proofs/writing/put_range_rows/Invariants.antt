use Rattle.std.proofs.Common.{◌≡◌, ◌++◌, take}
use Rattle.std.specs.List.{flat_map, AllByRecursion}
use Rattle.tab_codec.specs.Spelling.{range_row_spelling}
use Rattle.tab_codec.specs.Frames.{IsRangeRow}
use Rattle.tab_codec.proofs.writing.put_range_rows.Given as goal

abbrev pub invariant-loop-row : goal.invariant-loop-row
invariant-loop-row l = record {
  bytes : l.out.items ≡ l.fn.out.items ++ flat_map range_row_spelling (take l.row-index l.range_rows);
  parts : AllByRecursion IsRangeRow (take l.row-index l.range_rows);
}
