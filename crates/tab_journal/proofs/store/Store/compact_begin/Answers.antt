use Rattle.std.proofs.Common.{◌≡◌, ◌+◌, [], true, false, Some, refl, sym, ap, subst, ◌∙◌, arith}
use Rattle.tab_journal.specs.Areas.{IsClosed, header}
use Rattle.tab_journal.specs.Steps.{EachNow, IsBuilt}
use Rattle.tab_journal.specs.Stores.{StoreView, area_a, area_b, HasFrames, KeptSince}
use Rattle.tab_journal.proofs.Compacting.{kept_on, begun, begin_frames, begin_pieces, begin_kept, begin_has, closed_under}
use Rattle.tab_journal.proofs.store.Store.compact_begin.Goals as goal

pub returns-in-Err-write_closed-clause-images : goal.returns-in-Err-write_closed-clause-images
returns-in-Err-write_closed-clause-images g c honest list has_now =
    let w = g.D.Disk.watch in
    let closed = subst (λ s. EachNow w IsClosed s.other) (sym c.self-2.view_is) (c.in_default-close_other.ensures.done honest has_now.other) in
    let first = begin_kept w c.args.self.now c.close_other.new.self list (g.met.D.Disk.only_now honest) c.close_other.ensures.view has_now (c.close_other.ensures.images honest has_now.other) in
    let kept = subst (λ s. KeptSince w s list (w.moment (area_a c.args.self.now)) (w.moment (area_b c.args.self.now))) (sym c.self-2.view_is) first in
    subst (λ s. KeptSince w s list (w.moment (area_a c.args.self.now)) (w.moment (area_b c.args.self.now))) (sym c.fault-in-Err-write_closed-2.ensures.failed)
    (kept_on w _ list (w.moment (area_a c.args.self.now)) (w.moment (area_b c.args.self.now)) c.write_closed.new.disk _ _ true (closed_under w _ _ _ _ _ (c.write_closed.ensures.images honest (omega arith) closed)) kept)

pub returns-clause-ok : goal.returns-clause-ok
returns-clause-ok g c honest list has_now =
    let w = g.D.Disk.watch in
    let done = c.in_default-close_other.ensures.done honest has_now.other in
    let has_closed = subst (λ s. HasFrames w s list) (sym c.self-2.view_is) (begin_has w c.args.self.now c.close_other.new.self list c.close_other.ensures.view c.in_default-close_other.ensures.shut done has_now) in
    let closed = subst (λ s. EachNow w IsClosed s.other) (sym c.self-2.view_is) done in
    let shut = subst (λ s. s.other_open ≡ false) (sym c.self-2.view_is) c.in_default-close_other.ensures.shut in
    let epoch_of = λ (s : StoreView g.row.D.Denot). s.epoch in
    let epochs : c.self-2.inside.epoch ≡ c.self.inside.epoch = ap epoch_of (c.self-2.view_is ∙ c.close_other.ensures.view) ∙ sym (ap epoch_of c.self.view_is) in
    let next : c.in-Some.epoch ≡ c.self-2.inside.epoch + 1 = omega (arith, epochs, c.in-Some.ensures) in
    let built = c.in_default-write_closed.ensures.built honest [] (begun w _ (g.met.D.Disk.reads_image honest) closed) refl in
    let head = c.header_bytes-header.ensures ∙ ap (λ e. header c.self-2.inside.kind c.self-2.inside.number e) next in
    let each = c.write_closed.ensures.closed honest (omega arith) closed in (
      begin_frames w _ list c.write_closed.new.disk _ (Some 20) shut each has_closed,
      begin_pieces w _ list c.write_closed.new.disk _ has_closed shut (omega (arith, epochs, c.in-Some.ensures)) (subst (λ l. IsBuilt w l c.write_closed.new.disk) head built),
    )

pub returns-clause-images : goal.returns-clause-images
returns-clause-images g c honest list has_now =
    let w = g.D.Disk.watch in
    let closed = subst (λ s. EachNow w IsClosed s.other) (sym c.self-2.view_is) (c.in_default-close_other.ensures.done honest has_now.other) in
    let first = begin_kept w c.args.self.now c.close_other.new.self list (g.met.D.Disk.only_now honest) c.close_other.ensures.view has_now (c.close_other.ensures.images honest has_now.other) in
    let kept = subst (λ s. KeptSince w s list (w.moment (area_a c.args.self.now)) (w.moment (area_b c.args.self.now))) (sym c.self-2.view_is) first in
    kept_on w _ list (w.moment (area_a c.args.self.now)) (w.moment (area_b c.args.self.now)) c.write_closed.new.disk _ (Some 20) _ (closed_under w _ _ _ _ _ (c.write_closed.ensures.images honest (omega arith) closed)) kept
