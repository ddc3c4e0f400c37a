use Rattle.tab_journal.proofs.Settling.{sound_running}
use Rattle.tab_journal.proofs.kept.Kept.new.Goals as goal

pub returns-clause-sound : goal.returns-clause-sound
returns-clause-sound g c honest list has stand = sound_running g.D.Disk.watch g.C.Content.sense _ c.requires.kind (record { frames = list; has = has; stand = stand })
