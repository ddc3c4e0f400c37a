use Rattle.tab_master.proofs.CheckpointLaws.{drop_short}
use Rattle.tab_master.proofs.content.drop_frame.Goals as goal

pub prepare-requires-clause-short : goal.prepare-requires-clause-short
prepare-requires-clause-short c = drop_short c.args.table
