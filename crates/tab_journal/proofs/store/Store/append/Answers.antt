use Rattle.std.proofs.Common.{◌≡◌, ◌+◌, [], ◌∷◌, ◌++◌, length, cond, sym, ap, subst, arith, length-append}
use Rattle.tab_outside.specs.Pairs.{Extends}
use Rattle.tab_codec.specs.Spelling.{spelling}
use Rattle.tab_codec.proofs.FrameLaws.{frame_again}
use Rattle.tab_journal.specs.Areas.{Spells}
use Rattle.tab_journal.specs.Fitting.{Fits}
use Rattle.tab_journal.specs.Stores.{area_a, area_b, HasFrames}
use Rattle.tab_journal.proofs.Running.{may_append, appended, append_extends}
use Rattle.tab_journal.proofs.store.Store.append.Goals as goal

pub returns-in-Ok-clause-ok : goal.returns-in-Ok-clause-ok
returns-in-Ok-clause-ok g c honest list has_now fits_now =
    let w = g.D.Disk.watch in
    let frame = c.args.prepared.now in
    let has = subst (λ s. HasFrames w s list) (sym c.self.view_is) has_now in
    let fits = subst (λ s. Fits s.kind list frame) (sym c.self.view_is) fits_now in
    let size : length c.bytes-piece.result.now ≡ length (spelling frame) + 1 = omega (arith, ap length c.bytes-piece.ensures.bytes, length-append (spelling frame) (0 ∷ [])) in
    let far = c.in-Ok.ensures.far honest in
    appended w _ list frame _ _ has fits c.bytes-piece.ensures.spelled
    (c.in-Ok.ensures.done honest _ (spelling frame) (may_append w _ list frame _ has c.bytes-piece.ensures.bytes))
    (omega (arith, c.saturating_add-self-inside.ensures, size, far))
    (omega (arith, c.saturating_add-self-inside.ensures, size, far))

pub returns-in-Ok-clause-images : goal.returns-in-Ok-clause-images
returns-in-Ok-clause-images g c honest list has_now fits_now =
    let w = g.D.Disk.watch in
    let frame = c.args.prepared.now in
    let has = subst (λ s. HasFrames w s list) (sym c.self.view_is) has_now in
    let fits = subst (λ s. Fits s.kind list frame) (sym c.self.view_is) fits_now in
    subst (λ s. Extends w (Spells s.kind s.number) (λ others. others ≡ list ++ frame ∷ []) (area_a s) (area_b s) (cond c.self.inside.second c.self.inside.other c.append_to.new.disk) (cond c.self.inside.second c.append_to.new.disk c.self.inside.other)) c.self.view_is
    (append_extends w frame_again _ list frame c.append_to.new.disk (g.met.D.Disk.counts_now honest) (g.met.D.Disk.reads_image honest) has fits c.bytes-piece.ensures.spelled
    (c.append_to.ensures.images honest _ (spelling frame) (may_append w _ list frame _ has c.bytes-piece.ensures.bytes)))

pub returns-in-Err-clause-images : goal.returns-in-Err-clause-images
returns-in-Err-clause-images g c honest list has_now fits_now =
    let w = g.D.Disk.watch in
    let frame = c.args.prepared.now in
    let has = subst (λ s. HasFrames w s list) (sym c.self.view_is) has_now in
    let fits = subst (λ s. Fits s.kind list frame) (sym c.self.view_is) fits_now in
    subst (λ s. Extends w (Spells c.args.self.now.kind c.args.self.now.number) (λ others. others ≡ list ++ frame ∷ []) (area_a c.args.self.now) (area_b c.args.self.now) (area_a s) (area_b s))
    (sym c.fault-in-Err.ensures.failed)
    (subst (λ s. Extends w (Spells s.kind s.number) (λ others. others ≡ list ++ frame ∷ []) (area_a s) (area_b s) (cond c.self.inside.second c.self.inside.other c.append_to.new.disk) (cond c.self.inside.second c.append_to.new.disk c.self.inside.other)) c.self.view_is
    (append_extends w frame_again _ list frame c.append_to.new.disk (g.met.D.Disk.counts_now honest) (g.met.D.Disk.reads_image honest) has fits c.bytes-piece.ensures.spelled
    (c.append_to.ensures.images honest _ (spelling frame) (may_append w _ list frame _ has c.bytes-piece.ensures.bytes))))
