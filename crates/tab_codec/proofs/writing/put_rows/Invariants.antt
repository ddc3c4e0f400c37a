use Rattle.std.proofs.Common.{◌≡◌, ◌++◌, take}
use Rattle.std.specs.List.{flat_map, AllByRecursion}
use Rattle.tab_codec.specs.Spelling.{row_spelling}
use Rattle.tab_rows.specs.Rows.{IsKept}
use Rattle.tab_codec.proofs.writing.put_rows.Given as goal

abbrev pub invariant-loop-row : goal.invariant-loop-row
invariant-loop-row l = record {
  bytes : l.out.items ≡ l.fn.out.items ++ flat_map row_spelling (take l.row-index l.rows);
  parts : AllByRecursion IsKept (take l.row-index l.rows);
}
