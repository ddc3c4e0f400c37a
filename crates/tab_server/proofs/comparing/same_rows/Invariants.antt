-- The rows before the place are the same, and there are as many.
use Rattle.std.proofs.Common.{◌≡◌, length, take}
use Rattle.tab_server.proofs.comparing.same_rows.Given as goal

abbrev pub invariant-loop-at : goal.invariant-loop-at
invariant-loop-at l = (length l.rows ≡ length l.others) × (take l.at l.rows ≡ take l.at l.others)
