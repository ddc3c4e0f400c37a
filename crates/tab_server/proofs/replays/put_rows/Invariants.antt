-- With the rows that are left, the rows come to what they come to with all of them.
use Rattle.std.proofs.Common.{◌≡◌, drop}
use Rattle.tab_server.specs.Replays.{with_rows}
use Rattle.tab_server.proofs.replays.put_rows.Given as goal

abbrev pub invariant-loop-row : goal.invariant-loop-row
invariant-loop-row l = with_rows l.rows.rows (drop l.row-index l.others) ≡ with_rows l.fn.rows.rows l.others
