use Rattle.std.proofs.Common.{◌∙◌, subst}
use Rattle.tab_master.specs.Names.{NamesStand}
use Rattle.tab_master.proofs.NamesReadLaws.{opens_so}
use Rattle.tab_master.proofs.names.Names.open.Goals as goal

pub returns-clause-exact : goal.returns-clause-exact
returns-clause-exact g c honest =
    opens_so c.in_ok-store.store c.in_ok-store.frames.items c.in-Ok.held c.of.result _ (c.of.ensures ∙ c.new.ensures.view) (c.in_ok-store.ensures.exact honest)
    (subst (λ fs. NamesStand fs c.in-Ok.held.told) c.deref.ensures.value c.in-Ok.ensures)
