-- What is known of something kept between two calls, and what its calls answer.
use Rattle.std.proofs.Common.{◌≡◌, ℕ, zero, suc, ◌-◌, ◌≤◌, Bool, true, false, Option, Some, None, Result, Ok, Err, List, [], ◌∷◌, ◌++◌, refl, sym, ap, subst, ◌∙◌, inl, inr, arith}
use Rattle.std.specs.Prelude.{◌⊎◌}
use Rattle.tab_outside.specs.Disks.{Watch, Rests, CountsNow, OnlyNow, ReadsImage}
use Rattle.tab_outside.specs.Pairs.{Now, Since, AddsNone}
use Rattle.tab_outside.proofs.Moments.{rests_adds_none, tells_weaker, now_weaker, since_weaker, since_begins}
use Rattle.tab_codec.specs.declared.frames.Frame.{Frame}
use Rattle.tab_journal.specs.Areas.{AreFrames, Spells}
use Rattle.tab_journal.specs.Fitting.{Fits}
use Rattle.tab_journal.specs.Reading.{Found, read_areas}
use Rattle.tab_journal.specs.Stores.{StoreView, area_a, area_b, area_of, IsSameStore, IsFaultOrSpent, StoreCauses, fails_by, Answers, HasFrames, SpellsEither}
use Rattle.tab_journal.specs.Keeping.{Sense, GoesOn, StandsFor, StandsWith, IfDoubt, Means, Runs, KeptView, IsSound, StandsStill}
use Rattle.tab_journal.specs.KeptCauses.{passed_on, KeptCauses}
use Rattle.tab_journal.specs.declared.refusals.StoreRefused.{StoreRefused}
use Rattle.tab_journal.specs.declared.refusals.StoreRefused.TheVariants as store
use Rattle.tab_journal.specs.declared.kept.KeptRefused.{KeptRefused}
use Rattle.tab_journal.specs.declared.kept.KeptRefused.TheVariants as kept
use Rattle.tab_journal.proofs.Fronts.{ReadsBack}
use Rattle.tab_journal.proofs.PairLaws.{same_frames, not_both, spelled_read}
use Rattle.tab_journal.proofs.Running.{left_alone}
use Rattle.tab_journal.proofs.Keeping.{frames_now, running_now, still_now}

-- ---- soundness

pub sound_running : {D C S : Type 0} (w : Watch D) (sense : Sense C S) (view : KeptView D C S) → view.store.kind ≡ sense.kind → Runs w sense view.store view.held → IsSound w sense view
sound_running w sense view kind runs = record { kind = kind; now = running_now w sense view.store view.held view.doubt runs; runs = λ e. runs }

never_false : (b : Bool) → b ≡ true → b ≡ false → ⊥
never_false b e f = let none : true ≡ false = sym e ∙ f in absurd (let no_way : ⊥ = cc in no_way)

pub sound_failed : {D C S : Type 0} (w : Watch D) (sense : Sense C S) (view : KeptView D C S) → view.store.kind ≡ sense.kind → view.failed ≡ true
    → Now w (Spells view.store.kind view.store.number) (Means sense view.held view.doubt) (area_a view.store) (area_b view.store) → IsSound w sense view
sound_failed w sense view kind failed now = record {
  kind = kind;
  now = now;
  runs = λ e. absurd (never_false view.failed failed e);
}

pub now_named : {D : Type 0} (w : Watch D) (P : List Frame → Type 0) (old new : StoreView D) → IsSameStore old new → Now w (Spells old.kind old.number) P (area_a new) (area_b new)
    → Now w (Spells new.kind new.number) P (area_a new) (area_b new)
now_named w P old new same now =
    subst (λ (k : ℕ). Now w (Spells k new.number) P (area_a new) (area_b new)) (sym same.kind)
    (subst (λ (n : ℕ). Now w (Spells old.kind n) P (area_a new) (area_b new)) (sym same.number) now)

-- frames that stood for what was held stand for what is held now
means_still : {C S : Type 0} (sense : Sense C S) (old : C) (doubt : Option S) (new : C) → StandsStill sense old doubt new → (frames : List Frame) → Means sense old doubt frames → Means sense new doubt frames
means_still sense old doubt new stands frames (inl stand) = inl (stands.still frames stand)
means_still sense old doubt new stands frames (inr in_doubt) = inr (stands.in_doubt frames in_doubt)

pub sound_still : {D C S : Type 0} (w : Watch D) (sense : Sense C S) (old : KeptView D C S) (held : C) → StandsStill sense old.held old.doubt held → IsSound w sense old → IsSound w sense (record old { held = held })
sound_still w sense old held stands sound = record {
  kind = sound.kind;
  now = now_weaker w (Spells old.store.kind old.store.number) (Means sense old.held old.doubt) (Means sense held old.doubt) (area_a old.store) (area_b old.store) (means_still sense old.held old.doubt held stands) sound.now;
  runs = λ e.
      let r = sound.runs e in
      record { frames = r.frames; has = r.has; stand = stands.still r.frames r.stand };
}

-- frames that stand for what was held with the step that is let go stand for what is held
means_forgotten : {C S : Type 0} (sense : Sense C S) (held : C) (doubt : Option S) → ((frames : List Frame) → IfDoubt sense held doubt frames → StandsFor sense held frames)
    → (frames : List Frame) → Means sense held doubt frames → Means sense held None frames
means_forgotten sense held doubt still frames (inl stand) = inl stand
means_forgotten sense held doubt still frames (inr in_doubt) = inl (still frames in_doubt)

pub sound_forgotten : {D C S : Type 0} (w : Watch D) (sense : Sense C S) (old : KeptView D C S) → ((frames : List Frame) → IfDoubt sense old.held old.doubt frames → StandsFor sense old.held frames)
    → IsSound w sense old → IsSound w sense (record old { doubt = None })
sound_forgotten w sense old still sound = record {
  kind = sound.kind;
  now = now_weaker w (Spells old.store.kind old.store.number) (Means sense old.held old.doubt) (Means sense old.held None) (area_a old.store) (area_b old.store) (means_forgotten sense old.held old.doubt still) sound.now;
  runs = sound.runs;
}

-- ---- a step

pub steps_on : {C S : Type 0} (sense : Sense C S) (kind : ℕ) (held : C) (step : S) (list : List Frame) (frame : Frame) → GoesOn sense → kind ≡ sense.kind → frame ≡ sense.frame_of step
    → AreFrames kind list → sense.fits (sense.tells held) step → StandsFor sense held list → Fits kind list frame × StandsWith sense held step (list ++ frame ∷ [])
steps_on sense kind held step list frame goes is_kind is_frame are fits stand =
    let on = goes list (sense.tells held) step (subst (λ (k : ℕ). AreFrames k list) is_kind are) fits stand in (
      subst (λ (k : ℕ). Fits k list frame) (sym is_kind) (subst (λ (f : Frame). Fits sense.kind list f) (sym is_frame) on.0),
      subst (λ (f : Frame). StandsWith sense held step (list ++ f ∷ [])) (sym is_frame) on.1,
    )

-- ---- a reading

-- what is read now is what the images spell: P holds of it
pub read_holds : {D : Type 0} (reads : ReadsBack) (w : Watch D) (kind number : ℕ) (P : List Frame → Type 0) (a b : D) (list : List Frame) (area epoch : ℕ) → ReadsImage w
    → Now w (Spells kind number) P a b → read_areas kind number (w.seen a) (w.seen b) ≡ Ok (record { area = area; epoch = epoch; frames = list }) → P list
read_holds reads w kind number P a b list area epoch image now is =
    let tells = now (w.seen a) (w.seen b) (image a) (image b) in
    let x = spelled_read reads kind number tells.value (w.seen a) (w.seen b) tells.spelled in
    let f : Found = record { area = area; epoch = epoch; frames = list } in
    subst P (same_frames _ f (sym x.is ∙ is)) tells.holds

pub never_unread : {D : Type 0} (reads : ReadsBack) (w : Watch D) (kind number : ℕ) (P : List Frame → Type 0) (a b : D) (area at : ℕ) → ReadsImage w
    → Now w (Spells kind number) P a b → read_areas kind number (w.seen a) (w.seen b) ≡ Err (area, at) → ⊥
never_unread reads w kind number P a b area at image now is =
    let tells = now (w.seen a) (w.seen b) (image a) (image b) in
    let x = spelled_read reads kind number tells.value (w.seen a) (w.seen b) tells.spelled in
    not_both _ (area, at) (sym x.is ∙ is)

pub none_in_doubt : {C S : Type 0} (sense : Sense C S) (held : C) (doubt : Option S) (list : List Frame) → doubt ≡ None → Means sense held doubt list → (StandsFor sense held list → ⊥) → ⊥
none_in_doubt sense held None list is (inl stand) not_so = not_so stand
none_in_doubt sense held None list is (inr none) not_so = none
none_in_doubt sense held (Some step) list is means not_so = absurd (let none : ⊥ = cc in none)

pub one_in_doubt : {C S : Type 0} (sense : Sense C S) (held : C) (doubt : Option S) (step : S) (list : List Frame) → doubt ≡ Some step → Means sense held doubt list → (StandsFor sense held list → ⊥)
    → (StandsWith sense held step list → ⊥) → ⊥
one_in_doubt sense held doubt step list is (inl stand) not_so nor_so = not_so stand
one_in_doubt {S = S} sense held doubt step list is (inr in_doubt) not_so nor_so = nor_so (subst (λ (d : Option S). IfDoubt sense held d list) is in_doubt)

-- ---- refusals that are passed on

fault_of : (refused : StoreRefused) (area : ℕ) → passed_on refused ≡ kept.DiskFault area → refused ≡ store.DiskFault area
fault_of (store.DiskFault other) area e = cc
fault_of (store.NotAStore other at) area e = absurd (let none : ⊥ = cc in none)
fault_of store.EpochSpent area e = absurd (let none : ⊥ = cc in none)
fault_of store.Memory area e = absurd (let none : ⊥ = cc in none)

pub place_of : (refused : StoreRefused) (area at : ℕ) → passed_on refused ≡ kept.Damaged area at → refused ≡ store.NotAStore area at
place_of (store.DiskFault other) area at e = absurd (let none : ⊥ = cc in none)
place_of (store.NotAStore other place) area at e = cc
place_of store.EpochSpent area at e = absurd (let none : ⊥ = cc in none)
place_of store.Memory area at e = absurd (let none : ⊥ = cc in none)

abbrev refused_so : {T : Type 0} → KeptRefused → Result T KeptRefused
refused_so x = Err x

pub same_refusal : {T : Type 0} (x y : KeptRefused) → refused_so {T = T} x ≡ refused_so {T = T} y → x ≡ y
same_refusal x y e = cc

abbrev store_refused : {T : Type 0} → StoreRefused → Result T StoreRefused
store_refused x = Err x

pub causes_pass : {D C S : Type 0} (T U : Type 0) (faults : D → ℕ) (old new : KeptView D C S) (refused : StoreRefused) (x : KeptRefused) → x ≡ passed_on refused
    → StoreCauses {T = U} faults old.store new.store (Err refused) → KeptCauses {T = T} faults old new (Err x)
causes_pass T U faults old new refused x is causes = record {
  later_a = causes.later_a;
  later_b = causes.later_b;
  fault = λ area e. causes.fault area (ap (store_refused {T = U}) (fault_of refused area (sym is ∙ same_refusal {T = T} x (kept.DiskFault area) e)));
}

-- ---- a checkpoint

pub both_stand : {C S : Type 0} (sense : Sense C S) (held : C) (list pieces : List Frame) → StandsFor sense held list → StandsFor sense held pieces → (fs : List Frame) → (fs ≡ list) ⊎ (fs ≡ pieces)
    → StandsFor sense held fs
both_stand sense held list pieces stand stand_too fs (inl same) = subst (StandsFor sense held) (sym same) stand
both_stand sense held list pieces stand stand_too fs (inr same) = subst (StandsFor sense held) (sym same) stand_too

pub either_now : {D : Type 0} (w : Watch D) (kind number : ℕ) (list pieces : List Frame) (ta tb : ℕ) (a b : D) (P : List Frame → Type 0) → CountsNow w → ((fs : List Frame) → (fs ≡ list) ⊎ (fs ≡ pieces) → P fs)
    → SpellsEither w kind number list pieces ta tb a b → Now w (Spells kind number) P a b
either_now w kind number list pieces ta tb a b P counts to either c d c_left d_left =
    tells_weaker (Spells kind number) (λ fs. (fs ≡ list) ⊎ (fs ≡ pieces)) P c d to (either.each c d (counts a ta c either.earlier_a c_left) (counts b tb d either.earlier_b d_left))

pub either_since : {D : Type 0} (w : Watch D) (kind number : ℕ) (list pieces : List Frame) (ta tb : ℕ) (a b : D) (P : List Frame → Type 0) → ((fs : List Frame) → (fs ≡ list) ⊎ (fs ≡ pieces) → P fs)
    → SpellsEither w kind number list pieces ta tb a b → Since w (Spells kind number) P ta tb a b
either_since w kind number list pieces ta tb a b P to either = since_weaker w (Spells kind number) (λ fs. (fs ≡ list) ⊎ (fs ≡ pieces)) P ta tb a b to either.each

-- nothing was written
pub runs_since : {D C S : Type 0} (w : Watch D) (sense : Sense C S) (store : StoreView D) (held : C) → OnlyNow w → Runs w sense store held
    → Since w (Spells store.kind store.number) (StandsFor sense held) (w.moment (area_a store)) (w.moment (area_b store)) (area_a store) (area_b store)
runs_since w sense store held only runs =
    since_begins w (Spells store.kind store.number) (StandsFor sense held) (area_a store) (area_b store) only
    (now_weaker w (Spells store.kind store.number) (λ fs. fs ≡ runs.frames) (StandsFor sense held) (area_a store) (area_b store)
    (λ fs same. subst (StandsFor sense held) (sym same) runs.stand) (frames_now w store runs.frames runs.has))

pub sound_after : {D C S : Type 0} (U : Type 0) (w : Watch D) (sense : Sense C S) (old : KeptView D C S) (s : StoreView D) (b : Bool) (refused : StoreRefused) → IsFaultOrSpent {T = U} (Err refused)
    → b ≡ fails_by {T = U} false (Err refused) → old.failed ≡ false → (refused ≡ store.EpochSpent → s ≡ old.store) → IsSound w sense old → s.kind ≡ old.store.kind
    → Now w (Spells s.kind s.number) (Means sense old.held old.doubt) (area_a s) (area_b s) → IsSound w sense (record old { store = s; failed = b })
sound_after U w sense old s b (store.DiskFault area) alone failed running untouched sound kind now = sound_failed w sense (record old { store = s; failed = b }) (kind ∙ sound.kind) failed now
sound_after U w sense old s b (store.NotAStore area at) alone failed running untouched sound kind now = absurd alone
sound_after {D = D} U w sense old s b store.EpochSpent alone failed running untouched sound kind now = record {
  kind = kind ∙ sound.kind;
  now = now;
  runs = λ e. subst (λ (t : StoreView D). Runs w sense t old.held) (sym (untouched refl)) (sound.runs running);
}
sound_after U w sense old s b store.Memory alone failed running untouched sound kind now = absurd alone

-- ---- a settling that was refused

-- the images are as they were, and so is what is held and what is in doubt
now_still : {D C S : Type 0} (w : Watch D) (sense : Sense C S) (old new : KeptView D C S) → CountsNow w → OnlyNow w → IsSound w sense old → IsSameStore old.store new.store
    → AddsNone w (area_a old.store) (area_a new.store) → AddsNone w (area_b old.store) (area_b new.store) → new.held ≡ old.held → new.doubt ≡ old.doubt
    → Now w (Spells new.store.kind new.store.number) (Means sense new.held new.doubt) (area_a new.store) (area_b new.store)
now_still {C = C} {S = S} w sense old new counts only sound same none_a none_b held doubt =
    subst (λ (x : C). Now w (Spells new.store.kind new.store.number) (Means sense x new.doubt) (area_a new.store) (area_b new.store)) (sym held)
    (subst (λ (d : Option S). Now w (Spells new.store.kind new.store.number) (Means sense old.held d) (area_a new.store) (area_b new.store)) (sym doubt)
    (now_named w (Means sense old.held old.doubt) old.store new.store same
    (still_now w old.store.kind old.store.number (Means sense old.held old.doubt) (area_a old.store) (area_b old.store) (area_a new.store) (area_b new.store) counts only none_a none_b sound.now)))

pub settled_still : {D C S : Type 0} (w : Watch D) (sense : Sense C S) (old new : KeptView D C S) → CountsNow w → OnlyNow w → IsSound w sense old → IsSameStore old.store new.store
    → AddsNone w (area_a old.store) (area_a new.store) → AddsNone w (area_b old.store) (area_b new.store) → new.held ≡ old.held → new.doubt ≡ old.doubt → new.failed ≡ true → IsSound w sense new
settled_still w sense old new counts only sound same none_a none_b held doubt failed =
    sound_failed w sense new (same.kind ∙ sound.kind) failed (now_still w sense old new counts only sound same none_a none_b held doubt)

pub unread_at : {D : Type 0} (Z : Type 0) (new : StoreView D) (read : Result Found (ℕ × ℕ)) (refused : StoreRefused) (area at : ℕ) → refused ≡ store.NotAStore area at → Answers {Z = Z} new (Err refused) read
    → read ≡ Err (area, at)
unread_at Z new read refused area at is answers = subst (λ (r : StoreRefused). Answers {Z = Z} new (Err r) read) is answers

-- ---- a failure or a stop that is armed

same_none : {D : Type 0} (w : Watch D) (x y : D) → y ≡ x → AddsNone w x y
same_none {D = D} w x y e = subst (λ (z : D). AddsNone w x z) (sym e) (left_alone w x)

none_armed : {D : Type 0} (w : Watch D) (old new : StoreView D) (area : ℕ) → area ≤ 1 → CountsNow w → Rests w (area_of old area) (area_of new area) → area_of new (1 - area) ≡ area_of old (1 - area)
    → AddsNone w (area_a old) (area_a new) × AddsNone w (area_b old) (area_b new)
none_armed w old new zero less counts rests beside = (rests_adds_none w (area_a old) (area_a new) counts rests, same_none w (area_b old) (area_b new) beside)
none_armed w old new (suc zero) less counts rests beside = (same_none w (area_a old) (area_a new) beside, rests_adds_none w (area_b old) (area_b new) counts rests)
none_armed w old new (suc (suc n)) less counts rests beside = absurd (let none : ⊥ = omega (arith, less) in none)

pub armed_sound : {D C S : Type 0} (w : Watch D) (sense : Sense C S) (old : KeptView D C S) (s : StoreView D) (area : ℕ) → area ≤ 1 → CountsNow w → OnlyNow w
    → Rests w (area_of old.store area) (area_of s area) → area_of s (1 - area) ≡ area_of old.store (1 - area) → ((list : List Frame) → HasFrames w old.store list → HasFrames w s list)
    → IsSameStore old.store s → IsSound w sense old → IsSound w sense (record old { store = s })
armed_sound w sense old s area less counts only rests beside has same sound =
    let none = none_armed w old.store s area less counts rests beside in
    record {
      kind = same.kind ∙ sound.kind;
      now = now_still w sense old (record old { store = s }) counts only sound same none.0 none.1 refl refl;
      runs = λ e.
          let r = sound.runs e in
          record { frames = r.frames; has = has r.frames r.has; stand = r.stand };
    }
