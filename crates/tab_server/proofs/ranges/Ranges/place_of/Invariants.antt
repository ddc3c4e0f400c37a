-- No range so far has the number.
use Rattle.std.proofs.Common.{◌≢◌, take}
use Rattle.std.specs.Prelude.{All}
use Rattle.tab_server.proofs.ranges.Ranges.place_of.Given as goal

abbrev pub invariant-loop-place : goal.invariant-loop-place
invariant-loop-place g l = All (λ marked. marked.range.id ≢ l.range) (take l.place l.self)
