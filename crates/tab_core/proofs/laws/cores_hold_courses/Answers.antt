use Rattle.tab_core.proofs.Stores.{core_holds}
use Rattle.tab_core.proofs.laws.cores_hold_courses.Goals as goal

pub returns : goal.returns
returns g c honest course core keeps sound =
    core_holds {D = g.row.D.Denot} {T = g.row.T.Denot} g.T.Tally.drew g.T.Tally.ready g.T.Tally.kin g.D.Disk.watch course core keeps sound
