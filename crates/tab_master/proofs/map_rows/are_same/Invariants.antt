use Rattle.std.proofs.Common.{◌≡◌, length, take}
use Rattle.tab_master.proofs.map_rows.are_same.Given as goal

abbrev pub invariant-loop-index : goal.invariant-loop-index
invariant-loop-index l = (length l.rows ≡ length l.others) × (take l.index l.rows ≡ take l.index l.others)
