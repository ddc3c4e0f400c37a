use Rattle.std.proofs.Common.{◌≡◌, take}
use Rattle.tab_journal.proofs.making.prepared.Given as goal

abbrev pub invariant-loop-frame : goal.invariant-loop-frame
invariant-loop-frame l = l.pieces.items ≡ take l.frame-index l.frames
