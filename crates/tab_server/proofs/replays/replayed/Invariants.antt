-- With the frames that are left, what was found comes to what all frames spell.
use Rattle.std.proofs.Common.{◌≡◌, drop}
use Rattle.tab_server.specs.Replays.{spelled_from, spelled_range}
use Rattle.tab_server.proofs.replays.replayed.Given as goal

abbrev pub invariant-loop-frame : goal.invariant-loop-frame
invariant-loop-frame l = spelled_from l.number l.found (drop l.frame-index l.frames) ≡ spelled_range l.frames l.number
