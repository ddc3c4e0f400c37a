use Rattle.std.proofs.Common.{◌≡◌, true, refl, sym, subst, ◌∙◌}
use Rattle.tab_codec.proofs.FrameLaws.{frame_again}
use Rattle.tab_journal.specs.Reading.{read_areas}
use Rattle.tab_journal.specs.Stores.{area_a, area_b}
use Rattle.tab_journal.specs.Keeping.{KeptView, StandsFor, StandsWith, Means, IsSound}
use Rattle.tab_journal.proofs.Settling.{sound_running, settled_still, read_holds, never_unread, none_in_doubt, one_in_doubt, place_of, same_refusal, unread_at}
use Rattle.tab_journal.proofs.kept.Kept.settle.Goals as goal

pub returns-in-Err-clause-never : goal.returns-in-Err-clause-never
returns-in-Err-clause-never g c honest area at is =
    let w = g.D.Disk.watch in
    let sense = g.C.Content.sense in
    let sound = subst (λ v. IsSound w sense v) (sym c.self.view_is) (c.requires.sound honest) in
    never_unread frame_again w _ _ (Means sense c.self.inside.held c.self.inside.doubt) _ _ area at (g.met.D.Disk.reads_image honest) sound.now
    (unread_at {D = g.row.D.Denot} (Unit {0}) c.reopen.new.self
    (read_areas c.self.inside.store.kind c.self.inside.store.number (w.seen (area_a c.self.inside.store)) (w.seen (area_b c.self.inside.store))) c.in-Err.refused area at (place_of c.in-Err.refused area at (sym c.passed_on.ensures ∙ same_refusal _ _ is)) (c.in-Err.ensures.exact honest))

pub returns-in-Err-clause-sound : goal.returns-in-Err-clause-sound
returns-in-Err-clause-sound g c honest =
    let w = g.D.Disk.watch in
    let sense = g.C.Content.sense in
    let sound = subst (λ v. IsSound w sense v) (sym c.self.view_is) (c.requires.sound honest) in
    let failed = subst (λ v. v.failed ≡ true) (sym c.self.view_is) c.requires.failed in
    settled_still w sense _ _ (g.met.D.Disk.counts_now honest) (g.met.D.Disk.only_now honest) sound c.reopen.ensures.same (c.reopen.ensures.images_a honest) (c.reopen.ensures.images_b honest) refl refl failed

pub returns-in_default-clause-sound : goal.returns-in_default-clause-sound
returns-in_default-clause-sound g c honest =
    let w = g.D.Disk.watch in
    let sense = g.C.Content.sense in
    let sound = subst (λ v. IsSound w sense v) (sym c.self.view_is) (c.requires.sound honest) in
    let failed = subst (λ v. v.failed ≡ true) (sym c.self.view_is) c.requires.failed in
    settled_still w sense _ _ (g.met.D.Disk.counts_now honest) (g.met.D.Disk.only_now honest) sound c.reopen.ensures.same (c.reopen.ensures.images_a honest) (c.reopen.ensures.images_b honest) refl refl failed

pub returns-then-is_read-clause-sound : goal.returns-then-is_read-clause-sound
returns-then-is_read-clause-sound g c honest =
    let w = g.D.Disk.watch in
    let sense = g.C.Content.sense in
    let sound = subst (λ v. IsSound w sense v) (sym c.self.view_is) (c.requires.sound honest) in
    sound_running w sense _ (c.reopen.ensures.same.kind ∙ sound.kind) (record {
      frames = c.in-Ok.frames.items;
      has = c.in-Ok.ensures.ok honest;
      stand = subst (StandsFor sense c.self.inside.held) c.deref.ensures.value (c.in-Ok-is_read.ensures.yes c.if-is_read.true);
    })

pub returns-in_default-take-clause-sound : goal.returns-in_default-take-clause-sound
returns-in_default-take-clause-sound g c honest =
    let w = g.D.Disk.watch in
    let sense = g.C.Content.sense in
    let sound = subst (λ v. IsSound w sense v) (sym c.self.view_is) (c.requires.sound honest) in
    let failed = subst (λ v. v.failed ≡ true) (sym c.self.view_is) c.requires.failed in
    let new : KeptView g.row.D.Denot g.row.C.Denot g.row.C-Step.Denot = record { store = c.reopen.new.self; held = c.self.inside.held; doubt = c.take.new.self; failed = c.self.inside.failed } in
    settled_still w sense _ new (g.met.D.Disk.counts_now honest) (g.met.D.Disk.only_now honest) sound c.reopen.ensures.same (c.reopen.ensures.images_a honest) (c.reopen.ensures.images_b honest) refl
    (c.take.ensures.after ∙ sym (sym c.take.ensures.value ∙ c.in_default-take.is)) failed

pub returns-in_default-take-clause-never : goal.returns-in_default-take-clause-never
returns-in_default-take-clause-never g c honest area at is =
    let w = g.D.Disk.watch in
    let sense = g.C.Content.sense in
    let sound = subst (λ v. IsSound w sense v) (sym c.self.view_is) (c.requires.sound honest) in
    let P = Means sense c.self.inside.held c.self.inside.doubt in
    let means = read_holds frame_again w _ _ P _ _ c.in-Ok.frames.items _ _ (g.met.D.Disk.reads_image honest) sound.now (c.in-Ok.ensures.exact honest) in
    let not_so : StandsFor sense c.self.inside.held c.in-Ok.frames.items → ⊥ = λ stand. c.in-Ok-is_read.ensures.no c.if-is_read.false (subst (StandsFor sense c.self.inside.held) (sym c.deref.ensures.value) stand) in
    none_in_doubt sense c.self.inside.held c.self.inside.doubt c.in-Ok.frames.items (sym c.take.ensures.value ∙ c.in_default-take.is) means not_so

pub returns-in_default-is_read_with-clause-sound : goal.returns-in_default-is_read_with-clause-sound
returns-in_default-is_read_with-clause-sound g c honest =
    let w = g.D.Disk.watch in
    let sense = g.C.Content.sense in
    let sound = subst (λ v. IsSound w sense v) (sym c.self.view_is) (c.requires.sound honest) in
    let failed = subst (λ v. v.failed ≡ true) (sym c.self.view_is) c.requires.failed in
    settled_still w sense _ _ (g.met.D.Disk.counts_now honest) (g.met.D.Disk.only_now honest) sound c.reopen.ensures.same (c.reopen.ensures.images_a honest) (c.reopen.ensures.images_b honest) refl (sym c.in-Some.is ∙ c.take.ensures.value) failed

pub returns-then-stands-clause-sound : goal.returns-then-stands-clause-sound
returns-then-stands-clause-sound g c honest =
    let w = g.D.Disk.watch in
    let sense = g.C.Content.sense in
    let sound = subst (λ v. IsSound w sense v) (sym c.self.view_is) (c.requires.sound honest) in
    sound_running w sense _ (c.reopen.ensures.same.kind ∙ sound.kind) (record {
      frames = c.in-Ok.frames.items;
      has = c.in-Ok.ensures.ok honest;
      stand = subst (λ x. sense.stands c.in-Ok.frames.items x) (sym c.apply.ensures.told) (subst (StandsWith sense c.self.inside.held c.in-Some.step) c.deref-2.ensures.value (c.in-Ok-is_read_with.ensures.yes c.if-stands.true));
    })

pub returns-clause-sound : goal.returns-clause-sound
returns-clause-sound g c honest =
    let w = g.D.Disk.watch in
    let sense = g.C.Content.sense in
    let sound = subst (λ v. IsSound w sense v) (sym c.self.view_is) (c.requires.sound honest) in
    let failed = subst (λ v. v.failed ≡ true) (sym c.self.view_is) c.requires.failed in
    settled_still w sense _ _ (g.met.D.Disk.counts_now honest) (g.met.D.Disk.only_now honest) sound c.reopen.ensures.same (c.reopen.ensures.images_a honest) (c.reopen.ensures.images_b honest) refl (sym c.in-Some.is ∙ c.take.ensures.value) failed

pub returns-clause-never : goal.returns-clause-never
returns-clause-never g c honest area at is =
    let w = g.D.Disk.watch in
    let sense = g.C.Content.sense in
    let sound = subst (λ v. IsSound w sense v) (sym c.self.view_is) (c.requires.sound honest) in
    let P = Means sense c.self.inside.held c.self.inside.doubt in
    let means = read_holds frame_again w _ _ P _ _ c.in-Ok.frames.items _ _ (g.met.D.Disk.reads_image honest) sound.now (c.in-Ok.ensures.exact honest) in
    let not_so : StandsFor sense c.self.inside.held c.in-Ok.frames.items → ⊥ = λ stand. c.in-Ok-is_read.ensures.no c.if-is_read.false (subst (StandsFor sense c.self.inside.held) (sym c.deref.ensures.value) stand) in
    let nor_so : StandsWith sense c.self.inside.held c.in-Some.step c.in-Ok.frames.items → ⊥ = λ stand. c.in-Ok-is_read_with.ensures.no c.if-stands.false (subst (StandsWith sense c.self.inside.held c.in-Some.step) (sym c.deref-2.ensures.value) stand) in
    one_in_doubt sense c.self.inside.held c.self.inside.doubt c.in-Some.step c.in-Ok.frames.items (sym c.take.ensures.value ∙ c.in-Some.is) means not_so nor_so
