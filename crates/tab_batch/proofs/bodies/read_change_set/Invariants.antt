use Rattle.std.proofs.Common.{◌≡◌, [], ◌-◌, ◌≤◌, length}
use Rattle.tab_batch.specs.Reading.{in_change_set, SectionBelow}
use Rattle.tab_batch.specs.declared.sections.ChangeSetState.TheVariants.{Before}
use Rattle.tab_batch.proofs.bodies.read_change_set.Given as goal

abbrev pub invariant-loop-line : goal.invariant-loop-line
invariant-loop-line l = record {
  within : l.at ≤ length l.bytes;
  below : SectionBelow l.at l.section;
  left : in_change_set l.boundary l.bytes l.inner [] Before l.start ≡ in_change_set l.boundary l.bytes l.inner l.section.ranges.items l.section.state l.at;
}

abbrev pub decreases-loop-line : goal.decreases-loop-line
decreases-loop-line l = length l.bytes - l.at
