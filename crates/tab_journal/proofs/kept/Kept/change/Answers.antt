use Rattle.tab_outside.proofs.Moments.{extends_none}
use Rattle.tab_journal.proofs.Running.{left_alone}
use Rattle.tab_journal.proofs.kept.Kept.change.Goals as goal

pub returns-in_default-clause-images : goal.returns-in_default-clause-images
returns-in_default-clause-images g c honest = extends_none g.D.Disk.watch _ _ _ _ _ _ (left_alone g.D.Disk.watch _) (left_alone g.D.Disk.watch _)
