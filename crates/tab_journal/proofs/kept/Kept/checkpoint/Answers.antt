use Rattle.std.proofs.Common.{◌≡◌, false, Err, sym, ap, subst, ◌∙◌, inl}
use Rattle.tab_outside.specs.Pairs.{Since}
use Rattle.tab_journal.specs.Areas.{AreFrames, Spells}
use Rattle.tab_journal.specs.Stores.{area_a, area_b}
use Rattle.tab_journal.specs.Keeping.{KeptView, StandsFor, Means, IsSound}
use Rattle.tab_journal.proofs.Settling.{sound_running, sound_after, both_stand, either_now, either_since, runs_since, now_named}
use Rattle.tab_journal.proofs.kept.Kept.checkpoint.Goals as goal

pub returns-in_default-clause-images : goal.returns-in_default-clause-images
returns-in_default-clause-images g c honest =
    let w = g.D.Disk.watch in
    let sense = g.C.Content.sense in
    let sound = subst (λ v. IsSound w sense v) (sym c.self.view_is) (c.requires.sound honest) in
    let running = subst (λ v. v.failed ≡ false) (sym c.self.view_is) c.requires.running in
    let runs = sound.runs running in
    subst (λ v. Since w (Spells v.store.kind v.store.number) (StandsFor sense v.held) (w.moment (area_a v.store)) (w.moment (area_b v.store)) (area_a v.store) (area_b v.store)) c.self.view_is
    (runs_since w sense _ c.self.inside.held (g.met.D.Disk.only_now honest) runs)

pub returns-in-Ok-rewrite-clause-sound : goal.returns-in-Ok-rewrite-clause-sound
returns-in-Ok-rewrite-clause-sound g c honest =
    let w = g.D.Disk.watch in
    let sense = g.C.Content.sense in
    let sound = subst (λ v. IsSound w sense v) (sym c.self.view_is) (c.requires.sound honest) in
    let running = subst (λ v. v.failed ≡ false) (sym c.self.view_is) c.requires.running in
    let runs = sound.runs running in
    let held = c.self.inside.held in
    let pieces = c.deref.result.now in
    let out = g.met.C.Content.checks_out pieces (sense.tells held) (subst (λ fs. sense.is_checkpoint fs (sense.tells held)) (sym c.deref.ensures.value) c.in-Ok.ensures) in
    let are = subst (λ k. AreFrames k pieces) (sym sound.kind) out.0 in
    sound_running w sense _ (c.rewrite.ensures.same.kind ∙ sound.kind) (record { frames = pieces; has = c.in-Ok-rewrite.ensures.ok honest runs.frames runs.has are; stand = out.1 })

pub returns-in-Ok-rewrite-clause-ok : goal.returns-in-Ok-rewrite-clause-ok
returns-in-Ok-rewrite-clause-ok g c honest =
    let w = g.D.Disk.watch in
    let sense = g.C.Content.sense in
    let sound = subst (λ v. IsSound w sense v) (sym c.self.view_is) (c.requires.sound honest) in
    let running = subst (λ v. v.failed ≡ false) (sym c.self.view_is) c.requires.running in
    let runs = sound.runs running in
    let held = c.self.inside.held in
    let pieces = c.deref.result.now in
    let out = g.met.C.Content.checks_out pieces (sense.tells held) (subst (λ fs. sense.is_checkpoint fs (sense.tells held)) (sym c.deref.ensures.value) c.in-Ok.ensures) in
    let are = subst (λ k. AreFrames k pieces) (sym sound.kind) out.0 in
    record { frames = pieces; has = c.in-Ok-rewrite.ensures.ok honest runs.frames runs.has are; checks = subst (λ fs. sense.is_checkpoint fs (sense.tells held)) (sym c.deref.ensures.value) c.in-Ok.ensures }

pub returns-in-Ok-rewrite-clause-images : goal.returns-in-Ok-rewrite-clause-images
returns-in-Ok-rewrite-clause-images g c honest =
    let w = g.D.Disk.watch in
    let sense = g.C.Content.sense in
    let sound = subst (λ v. IsSound w sense v) (sym c.self.view_is) (c.requires.sound honest) in
    let running = subst (λ v. v.failed ≡ false) (sym c.self.view_is) c.requires.running in
    let runs = sound.runs running in
    let held = c.self.inside.held in
    let pieces = c.deref.result.now in
    let out = g.met.C.Content.checks_out pieces (sense.tells held) (subst (λ fs. sense.is_checkpoint fs (sense.tells held)) (sym c.deref.ensures.value) c.in-Ok.ensures) in
    let are = subst (λ k. AreFrames k pieces) (sym sound.kind) out.0 in
    subst (λ v. Since w (Spells v.store.kind v.store.number) (StandsFor sense v.held) (w.moment (area_a v.store)) (w.moment (area_b v.store)) (area_a c.rewrite.new.self) (area_b c.rewrite.new.self)) c.self.view_is
    (either_since w _ _ runs.frames pieces _ _ _ _ (StandsFor sense held) (both_stand sense held runs.frames pieces runs.stand out.1) (c.rewrite.ensures.images honest runs.frames runs.has are))

pub returns-clause-sound : goal.returns-clause-sound
returns-clause-sound g c honest =
    let w = g.D.Disk.watch in
    let sense = g.C.Content.sense in
    let sound = subst (λ v. IsSound w sense v) (sym c.self.view_is) (c.requires.sound honest) in
    let running = subst (λ v. v.failed ≡ false) (sym c.self.view_is) c.requires.running in
    let runs = sound.runs running in
    let held = c.self.inside.held in
    let pieces = c.deref.result.now in
    let out = g.met.C.Content.checks_out pieces (sense.tells held) (subst (λ fs. sense.is_checkpoint fs (sense.tells held)) (sym c.deref.ensures.value) c.in-Ok.ensures) in
    let are = subst (λ k. AreFrames k pieces) (sym sound.kind) out.0 in
    let old : KeptView g.row.D.Denot g.row.C.Denot g.row.C-Step.Denot = record { store = c.self.inside.store; held = c.self.inside.held; doubt = c.self.inside.doubt; failed = c.self.inside.failed } in
    sound_after (Unit {0}) w sense old c.rewrite.new.self c.failed-self-inside.result c.in-Err.refused c.in-Err.ensures.alone (c.failed-self-inside.ensures ∙ c.in-Err.ensures.failed) running
    (λ e. c.in-Err.ensures.untouched (ap (λ r. Err r) e)) sound c.rewrite.ensures.same.kind
    (now_named w (Means sense held c.self.inside.doubt) c.self.inside.store c.rewrite.new.self c.rewrite.ensures.same
    (either_now w _ _ runs.frames pieces _ _ _ _ (Means sense held c.self.inside.doubt) (g.met.D.Disk.counts_now honest) (λ fs either. inl (both_stand sense held runs.frames pieces runs.stand out.1 fs either)) (c.rewrite.ensures.images honest runs.frames runs.has are)))

pub returns-clause-images : goal.returns-clause-images
returns-clause-images g c honest =
    let w = g.D.Disk.watch in
    let sense = g.C.Content.sense in
    let sound = subst (λ v. IsSound w sense v) (sym c.self.view_is) (c.requires.sound honest) in
    let running = subst (λ v. v.failed ≡ false) (sym c.self.view_is) c.requires.running in
    let runs = sound.runs running in
    let held = c.self.inside.held in
    let pieces = c.deref.result.now in
    let out = g.met.C.Content.checks_out pieces (sense.tells held) (subst (λ fs. sense.is_checkpoint fs (sense.tells held)) (sym c.deref.ensures.value) c.in-Ok.ensures) in
    let are = subst (λ k. AreFrames k pieces) (sym sound.kind) out.0 in
    subst (λ v. Since w (Spells v.store.kind v.store.number) (StandsFor sense v.held) (w.moment (area_a v.store)) (w.moment (area_b v.store)) (area_a c.rewrite.new.self) (area_b c.rewrite.new.self)) c.self.view_is
    (either_since w _ _ runs.frames pieces _ _ _ _ (StandsFor sense held) (both_stand sense held runs.frames pieces runs.stand out.1) (c.rewrite.ensures.images honest runs.frames runs.has are))
