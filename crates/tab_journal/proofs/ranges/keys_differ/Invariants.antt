use Rattle.std.proofs.Common.{◌≡◌, length}
use Rattle.tab_journal.specs.Told.{keys_differ}
use Rattle.tab_journal.proofs.ranges.keys_differ.Given as goal

abbrev pub invariant-loop-change : goal.invariant-loop-change
invariant-loop-change l = keys_differ l.rest ≡ keys_differ l.changes

abbrev pub decreases-loop-change : goal.decreases-loop-change
decreases-loop-change l = length l.rest
