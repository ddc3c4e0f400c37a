use Rattle.std.proofs.Common.{◌≡◌, ℕ, List, ◌-◌, ◌≤◌, length}
use Rattle.tab_batch.specs.Reading.{in_typed_head}
use Rattle.tab_batch.proofs.bodies.behind_head.Given as goal

abbrev pub invariant-loop-line : goal.invariant-loop-line
invariant-loop-line l = record {
  within : l.at ≤ length l.bytes;
  left : (inner : List ℕ) → in_typed_head l.boundary l.bytes inner l.start ≡ in_typed_head l.boundary l.bytes inner l.at;
}

abbrev pub decreases-loop-line : goal.decreases-loop-line
decreases-loop-line l = length l.bytes - l.at
