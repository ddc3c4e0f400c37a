use Rattle.std.proofs.Common.{◌≡◌, ◌-◌, ◌≤◌, length}
use Rattle.tab_batch.specs.Reading.{in_head}
use Rattle.tab_batch.proofs.bodies.inner_boundary.Given as goal

abbrev pub invariant-loop-line : goal.invariant-loop-line
invariant-loop-line l = record {
  within : l.at ≤ length l.bytes;
  left : in_head l.boundary l.bytes l.start ≡ in_head l.boundary l.bytes l.at;
}

abbrev pub decreases-loop-line : goal.decreases-loop-line
decreases-loop-line l = length l.bytes - l.at
