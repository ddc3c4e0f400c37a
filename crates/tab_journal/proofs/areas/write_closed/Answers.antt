use Rattle.std.proofs.Common.{arith}
use Rattle.tab_journal.specs.Areas.{IsClosed}
use Rattle.tab_journal.proofs.Images.{on_ok, adds_now}
use Rattle.tab_journal.proofs.Building.{closed_wrote, built_wrote}
use Rattle.tab_journal.proofs.areas.write_closed.Goals as goal

pub returns-clause-closed : goal.returns-clause-closed
returns-clause-closed g c honest behind each = closed_wrote g.D.Disk.watch _ _ _ _ behind (c.write_at.ensures.doubt honest) each

pub returns-clause-images : goal.returns-clause-images
returns-clause-images g c honest behind each =
    adds_now g.D.Disk.watch IsClosed _ _ (c.write_at.ensures.doubt honest).time (closed_wrote g.D.Disk.watch _ _ _ _ behind (c.write_at.ensures.doubt honest) each)

pub returns-clause-built : goal.returns-clause-built
returns-clause-built g c honest built is place =
    on_ok _ _ c.write_at.result
    (λ written. built_wrote g.D.Disk.watch _ built _ _ _ is place (closed_wrote g.D.Disk.watch _ _ _ _ (omega (arith, place)) (c.write_at.ensures.doubt honest) is.closed) written)
    (c.write_at.ensures.written honest)
