use Rattle.std.proofs.Common.{◌≡◌, drop}
use Rattle.tab_stores.specs.Counting.{count_of}
use Rattle.tab_stores.proofs.frames.count_of.Given as goal

abbrev pub invariant-loop-frame : goal.invariant-loop-frame
invariant-loop-frame l = count_of l.count (drop l.frame-index l.frames) ≡ count_of 0 l.fn.frames
