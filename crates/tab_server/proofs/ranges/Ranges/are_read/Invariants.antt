-- The frames spell each range so far.
use Rattle.std.proofs.Common.{take}
use Rattle.std.specs.List.{AllByRecursion}
use Rattle.std.specs.Option.{option_copied}
use Rattle.tab_server.proofs.Holding.{IsSpelledWith}
use Rattle.tab_server.proofs.ranges.Ranges.are_read.Given as goal

abbrev pub invariant-loop-marked : goal.invariant-loop-marked
invariant-loop-marked g l = AllByRecursion (IsSpelledWith l.frames (option_copied l.step)) (take l.marked-index l.self)
