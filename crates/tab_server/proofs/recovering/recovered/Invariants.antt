-- What is held so far is recovered over the listed ranges so far.
use Rattle.std.proofs.Common.{take}
use Rattle.tab_server.specs.Recovering.{IsRecovered}
use Rattle.tab_server.proofs.recovering.recovered.Given as goal

abbrev pub invariant-loop-number : goal.invariant-loop-number
invariant-loop-number g l = IsRecovered l.frames (take l.number-index l.listed) l.ranges
