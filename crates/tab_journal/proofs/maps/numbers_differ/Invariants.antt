use Rattle.std.proofs.Common.{◌≡◌, length}
use Rattle.tab_journal.specs.Told.{numbers_differ}
use Rattle.tab_journal.proofs.maps.numbers_differ.Given as goal

abbrev pub invariant-loop-row : goal.invariant-loop-row
invariant-loop-row l = numbers_differ l.rest ≡ numbers_differ l.rows

abbrev pub decreases-loop-row : goal.decreases-loop-row
decreases-loop-row l = length l.rest
