use Rattle.std.proofs.Common.{◌≡◌, List, sym, subst, ◌∙◌}
use Rattle.tab_codec.specs.declared.frames.Frame.{Frame}
use Rattle.tab_journal.specs.Stores.{HasFrames}
use Rattle.tab_journal.specs.Making.{IsMade}
use Rattle.tab_journal.proofs.Makes.{made_has}
use Rattle.tab_journal.proofs.store.Store.init.Goals as goal

pub returns-in-Ok-make-clause-ok : goal.returns-in-Ok-make-clause-ok
returns-in-Ok-make-clause-ok g c honest =
    let w = g.D.Disk.watch in
    let done = c.in-Ok-make.ensures.done honest in
    let is : c.deref.result.now ≡ c.args.base.now = c.deref.ensures.value ∙ c.in-Ok.ensures in
    subst (λ s. HasFrames w s c.args.base.now) (sym c.made.ensures)
    (made_has w c.args.kind c.args.number c.args.base.now c.in-Ok-make.end c.make.new.a c.make.new.b
    (subst (λ (fs : List Frame). IsMade w c.args.kind c.args.number fs c.in-Ok-make.end c.make.new.a) is done.0) done.1 c.requires.fit c.requires.whole)
