use Rattle.std.proofs.Common.{None, sym, subst}
use Rattle.tab_journal.specs.Keeping.{IsSound}
use Rattle.tab_journal.proofs.Settling.{sound_forgotten}
use Rattle.tab_journal.proofs.kept.Kept.forget.Goals as goal

pub returns-clause-sound : goal.returns-clause-sound
returns-clause-sound g c honest sound =
    let w = g.D.Disk.watch in
    let sense = g.C.Content.sense in
    subst (λ v. IsSound w sense (record v { doubt = None })) (sym c.self.view_is) (sound_forgotten w sense c.args.self.now c.requires sound)
