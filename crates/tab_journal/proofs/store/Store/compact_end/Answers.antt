use Rattle.std.proofs.Common.{◌≡◌, ◌+◌, ◌++◌, length, not, cond, sym, ap, subst, ◌∙◌, arith}
use Rattle.std.specs.Option.{unwrap_or}
use Rattle.tab_journal.specs.Areas.{header, front, opened, AreFrames}
use Rattle.tab_journal.specs.Stores.{area_a, area_b, HasFrames, HasPieces, KeptSince, SpellsEither}
use Rattle.tab_journal.proofs.Compacting.{front_size, ended_as, end_images, end_images_swapped}
use Rattle.tab_journal.proofs.store.Store.compact_end.Goals as goal

pub returns-in-Err-clause-images : goal.returns-in-Err-clause-images
returns-in-Err-clause-images g c honest list pieces ta tb has_now built_now are_now kept_now =
    let w = g.D.Disk.watch in
    let built = subst (λ s. HasPieces w s pieces) (sym c.self.view_is) built_now in
    let are = subst (λ s. AreFrames s.kind pieces) (sym c.self.view_is) are_now in
    let kept = subst (λ s. KeptSince w s list ta tb) (sym c.self.view_is) kept_now in
    let size = front_size c.self.inside.kind c.self.inside.number (c.self.inside.epoch + 1) pieces in
    let at : c.unwrap_or-end.result ≡ length (front c.self.inside.kind c.self.inside.number (c.self.inside.epoch + 1) pieces) = c.unwrap_or-end.ensures ∙ ap (λ b. unwrap_or b 0) built.end in
    let body = header c.self.inside.kind c.self.inside.number (c.self.inside.epoch + 1) ++ opened pieces in
    subst (λ s. SpellsEither w c.args.self.now.kind c.args.self.now.number list pieces ta tb (area_a s) (area_b s)) (sym c.fault-in-Err.ensures.failed)
    (subst (λ s. SpellsEither w s.kind s.number list pieces ta tb (cond c.self.inside.second c.open_area.new.disk c.self.inside.current) (cond c.self.inside.second c.self.inside.current c.open_area.new.disk)) c.self.view_is
    (end_images w _ list pieces ta tb c.open_area.new.disk built.below are kept (c.open_area.ensures.images honest body built.built (omega (arith, at, size)))))

pub returns-clause-ok : goal.returns-clause-ok
returns-clause-ok g c honest list pieces has_now built_now are_now =
    let w = g.D.Disk.watch in
    let has = subst (λ s. HasFrames w s list) (sym c.self.view_is) has_now in
    let built = subst (λ s. HasPieces w s pieces) (sym c.self.view_is) built_now in
    let are = subst (λ s. AreFrames s.kind pieces) (sym c.self.view_is) are_now in
    let size = front_size c.self.inside.kind c.self.inside.number (c.self.inside.epoch + 1) pieces in
    let at : c.unwrap_or-end.result ≡ length (front c.self.inside.kind c.self.inside.number (c.self.inside.epoch + 1) pieces) = c.unwrap_or-end.ensures ∙ ap (λ b. unwrap_or b 0) built.end in
    let body = header c.self.inside.kind c.self.inside.number (c.self.inside.epoch + 1) ++ opened pieces in
    ended_as w _ list pieces c.open_area.new.disk _ _ _ _ _ has built are (c.in_default.ensures.done honest body built.built (omega (arith, at, size)))
    c.swap.ensures.x_after c.swap.ensures.y_after (omega (arith, c.saturating_add-self-inside.ensures, built.below)) at c.clear.ensures.items

pub returns-clause-images : goal.returns-clause-images
returns-clause-images g c honest list pieces ta tb has_now built_now are_now kept_now =
    let w = g.D.Disk.watch in
    let built = subst (λ s. HasPieces w s pieces) (sym c.self.view_is) built_now in
    let are = subst (λ s. AreFrames s.kind pieces) (sym c.self.view_is) are_now in
    let kept = subst (λ s. KeptSince w s list ta tb) (sym c.self.view_is) kept_now in
    let size = front_size c.self.inside.kind c.self.inside.number (c.self.inside.epoch + 1) pieces in
    let at : c.unwrap_or-end.result ≡ length (front c.self.inside.kind c.self.inside.number (c.self.inside.epoch + 1) pieces) = c.unwrap_or-end.ensures ∙ ap (λ b. unwrap_or b 0) built.end in
    let body = header c.self.inside.kind c.self.inside.number (c.self.inside.epoch + 1) ++ opened pieces in
    let ends = end_images_swapped w _ list pieces ta tb c.open_area.new.disk built.below are kept (c.open_area.ensures.images honest body built.built (omega (arith, at, size))) in
    subst (λ s. SpellsEither w s.kind s.number list pieces ta tb (cond (not c.self.inside.second) c.swap.new.y c.swap.new.x) (cond (not c.self.inside.second) c.swap.new.x c.swap.new.y)) c.self.view_is
    (subst (λ x. SpellsEither w c.self.inside.kind c.self.inside.number list pieces ta tb (cond (not c.self.inside.second) c.swap.new.y x) (cond (not c.self.inside.second) x c.swap.new.y)) (sym c.swap.ensures.x_after)
    (subst (λ y. SpellsEither w c.self.inside.kind c.self.inside.number list pieces ta tb (cond (not c.self.inside.second) y c.open_area.new.disk) (cond (not c.self.inside.second) c.open_area.new.disk y)) (sym c.swap.ensures.y_after) ends))
