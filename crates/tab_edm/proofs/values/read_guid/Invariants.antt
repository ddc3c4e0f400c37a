use Rattle.std.proofs.Common.{◌<◌, ℕ, get_or}
use Rattle.tab_edm.proofs.values.read_guid.Given as goal

abbrev pub invariant-loop-at : goal.invariant-loop-at
invariant-loop-at l = (k : ℕ) → k < l.at → get_or l.guid k 0 < 256
