use Rattle.std.proofs.Common.{AllPairs, IsTrue, length}
use Rattle.std.specs.Ordering.{is_lt}
use Rattle.tab_history.specs.World.{Named}
use Rattle.tab_master.specs.Spelled.{by_number}
use Rattle.tab_master.proofs.CheckpointLaws.{PartsSoFar}
use Rattle.tab_master.proofs.checkpoint.listing_frames.Given as goal

abbrev pub invariant-loop-rest : goal.invariant-loop-rest
invariant-loop-rest l = record {
  rise : AllPairs (λ (a b : Named). IsTrue (is_lt (by_number a b))) l.rest;
  so_far : PartsSoFar l.next_table l.pieces.items l.fn.rows l.rest;
}

abbrev pub decreases-loop-rest : goal.decreases-loop-rest
decreases-loop-rest l = length l.rest
