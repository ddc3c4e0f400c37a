use Rattle.std.proofs.Common.{◌≡◌, ◌≤◌, length, take}
use Rattle.tab_journal.specs.Told.{rows_besides}
use Rattle.tab_journal.proofs.maps.count_besides.Given as goal

abbrev pub invariant-loop-row : goal.invariant-loop-row
invariant-loop-row l = record {
  counted : l.count ≡ length (rows_besides l.ranges (take l.row-index l.rows));
  within : l.count ≤ l.row-index;
}
