use Rattle.std.proofs.Common.{sym, subst, ◌∙◌}
use Rattle.tab_journal.specs.Areas.{AreFrames}
use Rattle.tab_journal.specs.Stores.{area_a, area_b}
use Rattle.tab_journal.proofs.Pieces.{kept_since, either_named}
use Rattle.tab_journal.proofs.store.Store.rewrite.Goals as goal

pub returns-in_err-compact_begin-clause-images : goal.returns-in_err-compact_begin-clause-images
returns-in_err-compact_begin-clause-images g c honest list has are =
    let w = g.D.Disk.watch in
    let old = c.args.self.now in
    let pieces = c.args.pieces.now in
    let same = c.compact_begin.ensures.unmoved.same in
    either_named w list pieces _ _ old.kind old.number _ _ _ _ same.kind same.number
    (kept_since w c.compact_begin.new.self list pieces (w.moment (area_a old)) (w.moment (area_b old)) (c.compact_begin.ensures.images honest list has))

pub returns-in_err-write_pieces-clause-images : goal.returns-in_err-write_pieces-clause-images
returns-in_err-write_pieces-clause-images g c honest list has are =
    let w = g.D.Disk.watch in
    let old = c.args.self.now in
    let pieces = c.args.pieces.now in
    let ta = w.moment (area_a old) in
    let tb = w.moment (area_b old) in
    let first = c.compact_begin.ensures.unmoved.same in
    let same = c.write_pieces.ensures.unmoved.same in
    let begun = c.in_ok-compact_begin.ensures.ok honest list has in
    let kept = c.write_pieces.ensures.images honest list ta tb begun.0 begun.1 (c.compact_begin.ensures.images honest list has) in
    either_named w list pieces _ _ old.kind old.number ta tb _ _ (same.kind ∙ first.kind) (same.number ∙ first.number)
    (kept_since w c.write_pieces.new.self list pieces ta tb kept)

pub returns-clause-images : goal.returns-clause-images
returns-clause-images g c honest list has are =
    let w = g.D.Disk.watch in
    let old = c.args.self.now in
    let pieces = c.args.pieces.now in
    let ta = w.moment (area_a old) in
    let tb = w.moment (area_b old) in
    let first = c.compact_begin.ensures.unmoved.same in
    let same = c.write_pieces.ensures.unmoved.same in
    let begun = c.in_ok-compact_begin.ensures.ok honest list has in
    let kept = c.write_pieces.ensures.images honest list ta tb begun.0 begun.1 (c.compact_begin.ensures.images honest list has) in
    let built = c.in_ok-write_pieces.ensures.ok honest list begun.0 begun.1 in
    let are_now = subst (λ k. AreFrames k pieces) (sym (same.kind ∙ first.kind)) are in
    either_named w list pieces _ _ old.kind old.number ta tb _ _ (same.kind ∙ first.kind) (same.number ∙ first.number)
    (c.compact_end.ensures.images honest list pieces ta tb built.0 built.1 are_now kept)
