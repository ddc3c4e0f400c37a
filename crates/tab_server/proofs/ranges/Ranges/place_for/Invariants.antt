-- A range of the number goes behind those so far.
use Rattle.tab_server.proofs.Placing.{GoesBehind}
use Rattle.tab_server.proofs.ranges.Ranges.place_for.Given as goal

abbrev pub invariant-loop-place : goal.invariant-loop-place
invariant-loop-place g l = GoesBehind l.self l.number l.place
