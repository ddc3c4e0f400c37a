use Rattle.std.proofs.Common.{List, ap, map, subst, sym}
use Rattle.tab_outside.specs.Logs.{InLog, Logged, logged, Settles}
use Rattle.tab_outside.proofs.LogLemmas.{settled_image, settled_elapses}
use Rattle.tab_outside.proofs.mem_disk.MemDiskDisk.restart.Goals as goal

pub returns-clause-image : goal.returns-clause-image
returns-clause-image c =
    settled_image c.args.pick c.args.self.now.log (map logged c.self.inside.log.items)
    (subst (λ (log : List Logged). Settles c.args.pick c.args.self.now.log log) (sym (ap (λ (disk : InLog). disk.log) c.self.view_is)) c.settle.ensures.log)

pub returns-clause-time : goal.returns-clause-time
returns-clause-time c =
    settled_elapses c.args.pick c.args.self.now _
    (subst (λ (log : List Logged). Settles c.args.pick c.args.self.now.log log) (sym (ap (λ (disk : InLog). disk.log) c.self.view_is)) c.settle.ensures.log)
