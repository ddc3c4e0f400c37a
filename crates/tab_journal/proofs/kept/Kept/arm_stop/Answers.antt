use Rattle.std.proofs.Common.{sym, subst}
use Rattle.tab_journal.specs.Keeping.{IsSound}
use Rattle.tab_journal.proofs.Settling.{armed_sound}
use Rattle.tab_journal.proofs.kept.Kept.arm_stop.Goals as goal

pub returns-clause-sound : goal.returns-clause-sound
returns-clause-sound g c honest sound_now =
    let w = g.D.Disk.watch in
    let sense = g.C.Content.sense in
    let sound = subst (λ v. IsSound w sense v) (sym c.self.view_is) sound_now in
    armed_sound w sense _ c.arm_stop.new.self c.args.area c.requires (g.met.D.Disk.counts_now honest) (g.met.D.Disk.only_now honest) (c.arm_stop.ensures.rests honest) c.arm_stop.ensures.beside
    (c.arm_stop.ensures.kept honest) c.arm_stop.ensures.unmoved.same sound
