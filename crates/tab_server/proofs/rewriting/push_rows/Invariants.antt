-- With the rows that are left, the frames come to those of all rows.
use Rattle.tab_server.proofs.Filling.{IsFilling}
use Rattle.tab_server.proofs.rewriting.push_rows.Given as goal

abbrev pub invariant-loop-row : goal.invariant-loop-row
invariant-loop-row l = IsFilling l.range l.rows l.fn.pieces.items l.pieces.items l.next l.row-index
