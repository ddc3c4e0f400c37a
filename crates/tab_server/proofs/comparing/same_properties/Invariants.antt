-- The properties before the place are the same, and there are as many.
use Rattle.std.proofs.Common.{◌≡◌, length, take}
use Rattle.tab_server.proofs.comparing.same_properties.Given as goal

abbrev pub invariant-loop-at : goal.invariant-loop-at
invariant-loop-at l = (length l.properties ≡ length l.others) × (take l.at l.properties ≡ take l.at l.others)
