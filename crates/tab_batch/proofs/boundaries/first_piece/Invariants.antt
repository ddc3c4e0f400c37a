use Rattle.std.proofs.Common.{◌≡◌, ◌-◌, ◌≤◌, false, length, take, drop}
use Rattle.tab_batch.specs.Boundaries.{pieces}
use Rattle.tab_batch.proofs.PieceLemmas.{behind_front}
use Rattle.tab_batch.proofs.boundaries.first_piece.Given as goal

abbrev pub invariant-loop-at : goal.invariant-loop-at
invariant-loop-at l = record {
  within : l.at ≤ length l.bytes;
  read : pieces false l.bytes ≡ behind_front (take l.at l.bytes) (pieces l.quoted (drop l.at l.bytes));
}

abbrev pub decreases-loop-at : goal.decreases-loop-at
decreases-loop-at l = length l.bytes - l.at
