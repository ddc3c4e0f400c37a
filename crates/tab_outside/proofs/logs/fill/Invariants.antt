use Rattle.std.proofs.Common.{◌≡◌, take, replicate}
use Rattle.tab_outside.proofs.logs.fill.Given as goal

abbrev pub invariant-loop-each : goal.invariant-loop-each
invariant-loop-each l = take l.each-index l.bytes ≡ replicate l.each-index l.byte
