use Rattle.std.proofs.Common.{◌≡◌, take}
use Rattle.tab_master.specs.Tables.{spellings}
use Rattle.tab_master.proofs.tables.names_of.Given as goal

abbrev pub invariant-loop-table : goal.invariant-loop-table
invariant-loop-table l = l.names.items ≡ spellings (take l.table-index l.tables)
