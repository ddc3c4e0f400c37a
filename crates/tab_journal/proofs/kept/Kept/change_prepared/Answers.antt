use Rattle.std.proofs.Common.{◌≡◌, ◌++◌, ◌∷◌, [], true, false, None, Some, Err, refl, sym, subst, ◌∙◌}
use Rattle.tab_outside.specs.Pairs.{Extends}
use Rattle.tab_journal.specs.Areas.{Spells}
use Rattle.tab_journal.specs.Stores.{area_a, area_b}
use Rattle.tab_journal.specs.Keeping.{KeptView, StandsWith, Means, IsSound}
use Rattle.tab_journal.specs.KeptCauses.{KeptCauses}
use Rattle.tab_journal.proofs.Keeping.{running_now, step_images, failed_now}
use Rattle.tab_journal.proofs.Settling.{sound_running, sound_failed, now_named, steps_on, causes_pass}
use Rattle.tab_journal.proofs.kept.Kept.change_prepared.Goals as goal

pub returns-in-Ok-clause-sound : goal.returns-in-Ok-clause-sound
returns-in-Ok-clause-sound g c honest =
    let w = g.D.Disk.watch in
    let sense = g.C.Content.sense in
    let sound = subst (λ v. IsSound w sense v) (sym c.self.view_is) (c.requires.sound honest) in
    let running = subst (λ v. v.failed ≡ false) (sym c.self.view_is) c.requires.running in
    let fits = subst (λ v. sense.fits (sense.tells v.held) c.args.step) (sym c.self.view_is) c.requires.fits in
    let runs = sound.runs running in
    let on = steps_on sense _ _ c.args.step runs.frames c.args.prepared.now g.met.C.Content.goes_on sound.kind c.requires.frame runs.has.are fits runs.stand in
    sound_running w sense _ (c.append.ensures.same.kind ∙ sound.kind) (record {
      frames = runs.frames ++ c.args.prepared.now ∷ [];
      has = c.in-Ok.ensures.ok honest runs.frames runs.has on.0;
      stand = subst (λ x. sense.stands (runs.frames ++ c.args.prepared.now ∷ []) x) (sym c.apply.ensures.told) on.1;
    })

pub returns-in-Ok-clause-images : goal.returns-in-Ok-clause-images
returns-in-Ok-clause-images g c honest =
    let w = g.D.Disk.watch in
    let sense = g.C.Content.sense in
    let sound = subst (λ v. IsSound w sense v) (sym c.self.view_is) (c.requires.sound honest) in
    let running = subst (λ v. v.failed ≡ false) (sym c.self.view_is) c.requires.running in
    let fits = subst (λ v. sense.fits (sense.tells v.held) c.args.step) (sym c.self.view_is) c.requires.fits in
    let runs = sound.runs running in
    let on = steps_on sense _ _ c.args.step runs.frames c.args.prepared.now g.met.C.Content.goes_on sound.kind c.requires.frame runs.has.are fits runs.stand in
    subst (λ v. Extends w (Spells v.store.kind v.store.number) (StandsWith sense v.held c.args.step) (area_a v.store) (area_b v.store) (area_a c.append.new.self) (area_b c.append.new.self)) c.self.view_is
    (step_images w sense _ _ _ _ _ _ _ c.args.step (runs.frames ++ c.args.prepared.now ∷ []) on.1 (c.append.ensures.images honest runs.frames runs.has on.0))

pub returns-in-Err-clause-sound : goal.returns-in-Err-clause-sound
returns-in-Err-clause-sound g c honest =
    let w = g.D.Disk.watch in
    let sense = g.C.Content.sense in
    let sound = subst (λ v. IsSound w sense v) (sym c.self.view_is) (c.requires.sound honest) in
    let running = subst (λ v. v.failed ≡ false) (sym c.self.view_is) c.requires.running in
    let fits = subst (λ v. sense.fits (sense.tells v.held) c.args.step) (sym c.self.view_is) c.requires.fits in
    let runs = sound.runs running in
    let on = steps_on sense _ _ c.args.step runs.frames c.args.prepared.now g.met.C.Content.goes_on sound.kind c.requires.frame runs.has.are fits runs.stand in
    let extends = step_images w sense _ _ _ _ _ _ _ c.args.step (runs.frames ++ c.args.prepared.now ∷ []) on.1 (c.append.ensures.images honest runs.frames runs.has on.0) in
    sound_failed w sense _ (c.append.ensures.same.kind ∙ sound.kind) refl
    (now_named w (Means sense c.self.inside.held (Some c.args.step)) _ c.append.new.self c.append.ensures.same
    (failed_now w sense _ _ _ _ _ _ c.self.inside.held c.args.step (g.met.D.Disk.counts_now honest) (g.met.D.Disk.only_now honest) (running_now w sense _ c.self.inside.held None runs) extends))

pub returns-in-Err-clause-images : goal.returns-in-Err-clause-images
returns-in-Err-clause-images g c honest =
    let w = g.D.Disk.watch in
    let sense = g.C.Content.sense in
    let sound = subst (λ v. IsSound w sense v) (sym c.self.view_is) (c.requires.sound honest) in
    let running = subst (λ v. v.failed ≡ false) (sym c.self.view_is) c.requires.running in
    let fits = subst (λ v. sense.fits (sense.tells v.held) c.args.step) (sym c.self.view_is) c.requires.fits in
    let runs = sound.runs running in
    let on = steps_on sense _ _ c.args.step runs.frames c.args.prepared.now g.met.C.Content.goes_on sound.kind c.requires.frame runs.has.are fits runs.stand in
    subst (λ v. Extends w (Spells v.store.kind v.store.number) (StandsWith sense v.held c.args.step) (area_a v.store) (area_b v.store) (area_a c.append.new.self) (area_b c.append.new.self)) c.self.view_is
    (step_images w sense _ _ _ _ _ _ _ c.args.step (runs.frames ++ c.args.prepared.now ∷ []) on.1 (c.append.ensures.images honest runs.frames runs.has on.0))

pub returns-in-Err-clause-causes : goal.returns-in-Err-clause-causes
returns-in-Err-clause-causes g c =
    let old : KeptView g.row.D.Denot g.row.C.Denot g.row.C-Step.Denot = record { store = c.self.inside.store; held = c.self.inside.held; doubt = c.self.inside.doubt; failed = c.self.inside.failed } in
    let new : KeptView g.row.D.Denot g.row.C.Denot g.row.C-Step.Denot = record { store = c.append.new.self; held = c.self.inside.held; doubt = Some c.args.step; failed = true } in
    subst (λ v. KeptCauses g.D.Disk.faults v new (Err c.passed_on.result)) c.self.view_is
    (causes_pass _ _ g.D.Disk.faults old new c.in-Err.refused c.passed_on.result c.passed_on.ensures c.in-Err.ensures.causes)
