use Rattle.std.proofs.Common.{◌≡◌, ◌-◌, ◌≤◌, length}
use Rattle.tab_batch.specs.Parts.{ranges_of, body_at}
use Rattle.tab_batch.specs.Reading.{blocks_from}
use Rattle.tab_batch.proofs.bodies.behind_delimiter.Given as goal

abbrev pub invariant-loop-line : goal.invariant-loop-line
invariant-loop-line l = record {
  within : l.at ≤ length l.bytes;
  left : ranges_of l.boundary l.bytes ≡ body_at (length l.bytes) (blocks_from l.boundary l.bytes l.at).marked;
}

abbrev pub decreases-loop-line : goal.decreases-loop-line
decreases-loop-line l = length l.bytes - l.at
