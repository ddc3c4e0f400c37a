use Rattle.std.proofs.Common.{ap, map}
use Rattle.tab_outside.specs.Logs.{InLog, logged}
use Rattle.tab_outside.proofs.LogLemmas.{settled_rests, settles_from}
use Rattle.tab_outside.proofs.mem_disk.MemDiskDisk.sync.Goals as goal

pub returns-clause-rests : goal.returns-clause-rests
returns-clause-rests c =
    settled_rests c.args.self.now c.settle.new.self
    (settles_from 1 c.args.self.now.log (map logged c.self.inside.log.items) c.settle.new.self.log (ap (λ (disk : InLog). disk.log) c.self.view_is) c.settle.ensures.log)
