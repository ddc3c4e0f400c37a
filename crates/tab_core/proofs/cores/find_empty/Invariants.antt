use Rattle.tab_core.proofs.Lengths.{Asked}
use Rattle.tab_core.proofs.cores.find_empty.Given as goal

abbrev pub invariant-loop-index : goal.invariant-loop-index
invariant-loop-index g l = Asked g.D.Disk.watch g.D.Disk.tells g.D.Disk.honest g.D.Disk.faults l.initial.disks l.disks l.index
