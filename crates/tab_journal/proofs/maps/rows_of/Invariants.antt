use Rattle.std.proofs.Common.{◌≡◌, take}
use Rattle.std.specs.Prelude.{vec_items}
use Rattle.tab_journal.specs.Told.{rows_of}
use Rattle.tab_journal.proofs.maps.rows_of.Given as goal

abbrev pub invariant-loop-row : goal.invariant-loop-row
invariant-loop-row l = vec_items l.found ≡ rows_of l.ranges (take l.row-index l.rows)
