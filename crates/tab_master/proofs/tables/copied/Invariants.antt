use Rattle.std.proofs.Common.{◌≡◌, take}
use Rattle.tab_master.proofs.tables.copied.Given as goal

abbrev pub invariant-loop-table : goal.invariant-loop-table
invariant-loop-table l = l.rows.items ≡ take l.table-index l.tables
