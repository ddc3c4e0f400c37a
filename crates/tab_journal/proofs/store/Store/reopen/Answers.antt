use Rattle.std.proofs.Common.{refl, sym, ap, subst, ◌∙◌}
use Rattle.std.specs.Prelude.{vec_items}
use Rattle.tab_journal.specs.Areas.{AreFrames}
use Rattle.tab_journal.specs.Stores.{StoreView, adopted, HasFrames}
use Rattle.tab_journal.proofs.Places.{read_are, in_area}
use Rattle.tab_journal.proofs.Reopening.{reopened_has}
use Rattle.tab_journal.proofs.store.Store.reopen.Goals as goal

pub returns-in-Ok-spelled-clause-ok : goal.returns-in-Ok-spelled-clause-ok
returns-in-Ok-spelled-clause-ok g c honest =
    let w = g.D.Disk.watch in
    let mid = c.read_disks.new.self in
    let found = c.in-Ok-spelled.ensures.read in
    subst (λ s. HasFrames w s c.adopt.result.items) (sym c.adopt.ensures.view)
    (subst (λ v. HasFrames w (adopted mid c.in-Ok-spelled.reading) (vec_items v)) (sym c.adopt.ensures.frames)
    (reopened_has w mid c.in-Ok-spelled.reading mid.kind mid.number c.deref.result.now c.deref-2.result.now refl refl
    (c.deref.ensures.value ∙ c.in-Ok.ensures.bytes_a honest) (c.deref-2.ensures.value ∙ c.in-Ok.ensures.bytes_b honest) (c.in-Ok.ensures.only_a honest) (c.in-Ok.ensures.only_b honest)
    c.spelled.ensures.fit_a c.spelled.ensures.fit_b c.spelled.ensures.short_a c.spelled.ensures.short_b found.0 found.1 found.2 c.in-Ok-spelled.ensures.other))

pub returns-in-Ok-spelled-clause-are : goal.returns-in-Ok-spelled-clause-are
returns-in-Ok-spelled-clause-are g c =
    let mid = c.read_disks.new.self in
    let are = read_are mid.kind mid.number _ c.deref.result.now c.deref-2.result.now c.spelled.ensures.fit_a c.spelled.ensures.fit_b c.in-Ok-spelled.ensures.read.0 in
    subst (λ v. AreFrames c.args.self.now.kind (vec_items v)) (sym c.adopt.ensures.frames)
    (subst (λ k. AreFrames k (vec_items c.in-Ok-spelled.reading.found.frames)) (ap (λ (s : StoreView g.row.D.Denot). s.kind) c.read_disks.ensures.view) are)

pub returns-clause-area : goal.returns-clause-area
returns-clause-area g c = in_area c.in-Err-spelled.refused _ _ _ _ c.in-Err-spelled.ensures.read
