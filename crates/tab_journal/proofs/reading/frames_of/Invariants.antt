use Rattle.std.proofs.Common.{◌+◌, ◌-◌, length}
use Rattle.std.specs.Prelude.{vec_items}
use Rattle.tab_journal.proofs.NextReading.{IsReadUpTo}
use Rattle.tab_journal.proofs.reading.frames_of.Given as goal

abbrev pub invariant-loop-at : goal.invariant-loop-at
invariant-loop-at l = IsReadUpTo l.kind l.area l.told (vec_items l.frames) (vec_items l.places) l.at

abbrev pub decreases-loop-at : goal.decreases-loop-at
decreases-loop-at l = 21 + length l.area - l.at
