use Rattle.std.proofs.Common.{◌≡◌, ◌+◌, ◌++◌, length, true, Some, sym, ap, subst, ◌∙◌, arith}
use Rattle.std.specs.Option.{unwrap_or}
use Rattle.tab_journal.specs.Areas.{header, front, opened}
use Rattle.tab_journal.specs.Stores.{HasFrames, HasPieces, KeptSince}
use Rattle.tab_journal.proofs.Compacting.{kept_on, begin_frames, more_pieces, closed_under, front_size}
use Rattle.tab_journal.proofs.store.Store.compact_piece.Goals as goal

pub returns-in-Ok-clause-ok : goal.returns-in-Ok-clause-ok
returns-in-Ok-clause-ok g c honest list pieces has_now built_now =
    let w = g.D.Disk.watch in
    let has = subst (λ s. HasFrames w s list) (sym c.self.view_is) has_now in
    let built = subst (λ s. HasPieces w s pieces) (sym c.self.view_is) built_now in
    let size = front_size c.self.inside.kind c.self.inside.number (c.self.inside.epoch + 1) pieces in
    let at : c.unwrap_or-at.result ≡ length (front c.self.inside.kind c.self.inside.number (c.self.inside.epoch + 1) pieces) = c.unwrap_or-at.ensures ∙ ap (λ b. unwrap_or b 0) built.end in
    let done = c.in-Ok.ensures.built honest (header c.self.inside.kind c.self.inside.number (c.self.inside.epoch + 1) ++ opened pieces) built.built (omega (arith, at, size)) in (
      begin_frames w _ list c.write_piece.new.disk _ (Some c.in-Ok.end) built.shut (c.write_piece.ensures.closed honest (omega (arith, at, size)) built.built.closed) has,
      more_pieces w _ pieces c.args.prepared.now c.write_piece.new.disk c.in-Ok.end built done (omega (arith, at, c.in-Ok.ensures.end honest)) (c.in-Ok.ensures.far honest),
    )

pub returns-in-Ok-clause-images : goal.returns-in-Ok-clause-images
returns-in-Ok-clause-images g c honest list pieces ta tb has_now built_now kept_now =
    let w = g.D.Disk.watch in
    let built = subst (λ s. HasPieces w s pieces) (sym c.self.view_is) built_now in
    let kept = subst (λ s. KeptSince w s list ta tb) (sym c.self.view_is) kept_now in
    let size = front_size c.self.inside.kind c.self.inside.number (c.self.inside.epoch + 1) pieces in
    let at : c.unwrap_or-at.result ≡ length (front c.self.inside.kind c.self.inside.number (c.self.inside.epoch + 1) pieces) = c.unwrap_or-at.ensures ∙ ap (λ b. unwrap_or b 0) built.end in
    kept_on w _ list ta tb c.write_piece.new.disk _ (Some c.in-Ok.end) _ (closed_under w _ _ _ _ _ (c.write_piece.ensures.images honest (omega (arith, at, size)) built.built.closed)) kept

pub returns-in-Err-clause-images : goal.returns-in-Err-clause-images
returns-in-Err-clause-images g c honest list pieces ta tb has_now built_now kept_now =
    let w = g.D.Disk.watch in
    let built = subst (λ s. HasPieces w s pieces) (sym c.self.view_is) built_now in
    let kept = subst (λ s. KeptSince w s list ta tb) (sym c.self.view_is) kept_now in
    let size = front_size c.self.inside.kind c.self.inside.number (c.self.inside.epoch + 1) pieces in
    let at : c.unwrap_or-at.result ≡ length (front c.self.inside.kind c.self.inside.number (c.self.inside.epoch + 1) pieces) = c.unwrap_or-at.ensures ∙ ap (λ b. unwrap_or b 0) built.end in
    subst (λ s. KeptSince w s list ta tb) (sym c.fault-in-Err.ensures.failed)
    (kept_on w _ list ta tb c.write_piece.new.disk _ _ true (closed_under w _ _ _ _ _ (c.write_piece.ensures.images honest (omega (arith, at, size)) built.built.closed)) kept)
