use Rattle.std.proofs.Common.{ap, sym, subst, ◌∙◌}
use Rattle.tab_journal.specs.Keeping.{IsSound}
use Rattle.tab_master.specs.Names.{NamesView, names_sense}
use Rattle.tab_master.specs.NamesCalls.{NamesKept}
use Rattle.tab_master.proofs.NamesCallLaws.{still_roomed}
use Rattle.tab_master.proofs.names.Names.reserve_one.Goals as goal

pub returns-clause-sound : goal.returns-clause-sound
returns-clause-sound g c honest sound =
    c.held_mut.ensures.sound honest (subst (λ (k : NamesKept g.row.D.Denot). IsSound g.D.Disk.watch names_sense k) (sym c.self.view_is) sound) c.reserve_one.new.self
    (still_roomed c.self.inside.kept.held c.reserve_one.new.self c.self.inside.kept.doubt (c.reserve_one.ensures.told ∙ ap (λ (v : NamesView). v.told) c.held_mut.ensures.value))
