use Rattle.std.proofs.Common.{refl, ap}
use Rattle.tab_journal.specs.Keeping.{KeptView}
use Rattle.tab_journal.proofs.Settling.{sound_still}
use Rattle.tab_journal.proofs.kept.Kept.held_mut.Goals as goal

pub returns : goal.returns
returns g c = (
  (refl, λ w. ap (λ (v : KeptView g.row.D.Denot g.row.C.Denot g.row.C-Step.Denot). record v { held = w }) c.self.view_is),
  record {
    lends = tt;
    value = ap (λ (v : KeptView g.row.D.Denot g.row.C.Denot g.row.C-Step.Denot). v.held) c.self.view_is;
    sound = λ honest sound held still. sound_still g.D.Disk.watch g.C.Content.sense c.args.self.now held still sound;
  },
)
