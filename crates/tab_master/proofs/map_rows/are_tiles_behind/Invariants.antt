use Rattle.std.proofs.Common.{length, map}
use Rattle.tab_history.specs.Tilings.{AreTiles}
use Rattle.tab_master.specs.Spelled.{map_row}
use Rattle.tab_master.proofs.map_rows.are_tiles_behind.Given as goal

abbrev pub invariant-loop-next : goal.invariant-loop-next
invariant-loop-next l = record {
  to : AreTiles l.last.span.hi (map map_row l.rest) → AreTiles l.row.span.hi (map map_row l.rows);
  from : AreTiles l.row.span.hi (map map_row l.rows) → AreTiles l.last.span.hi (map map_row l.rest);
}

abbrev pub decreases-loop-next : goal.decreases-loop-next
decreases-loop-next l = length l.rest
