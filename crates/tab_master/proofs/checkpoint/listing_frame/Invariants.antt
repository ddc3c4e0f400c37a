use Rattle.tab_master.proofs.CheckpointLaws.{EntriesSoFar}
use Rattle.tab_master.proofs.checkpoint.listing_frame.Given as goal

abbrev pub invariant-loop-row : goal.invariant-loop-row
invariant-loop-row l = EntriesSoFar l.names.items l.rows l.row-index
