-- What a store's disks say of what is held in memory, after a step and after a reading.
use Rattle.std.proofs.Common.{◌≡◌, ℕ, Bool, true, false, cond, Option, Some, None, List, refl, sym, subst, inl, inr}
use Rattle.std.specs.Prelude.{◌⊎◌}
use Rattle.tab_outside.specs.Disks.{Watch, CountsNow, OnlyNow}
use Rattle.tab_outside.specs.Pairs.{Tells, Now, Extends, AddsNone}
use Rattle.tab_outside.proofs.Moments.{now_goes_on, now_weaker, extends_weaker, extends_none}
use Rattle.tab_codec.specs.declared.frames.Frame.{Frame}
use Rattle.tab_journal.specs.Areas.{ShutAt, Spells}
use Rattle.tab_journal.specs.Stores.{StoreView, area_a, area_b, HasFrames}
use Rattle.tab_journal.specs.Keeping.{Sense, StandsFor, StandsWith, Means, Runs}
use Rattle.tab_journal.proofs.Fronts.{ReadsBack}
use Rattle.tab_journal.proofs.Compacting.{under_spare, flipped}
use Rattle.tab_journal.proofs.PairLaws.{one_spelled}

-- ---- what the images of a store that runs spell

now_ordered : {D : Type 0} (w : Watch D) (kind number : ℕ) (P : List Frame → Type 0) (second : Bool) (x y : D)
    → ((c d : List ℕ) → w.may_leave x c → w.may_leave y d → Tells (Spells kind number) P c d) → Now w (Spells kind number) P (cond second y x) (cond second x y)
now_ordered w kind number P false x y each c d c_left d_left = each c d c_left d_left
now_ordered w kind number P true x y each d c d_left c_left = flipped kind number P c d (each c d c_left d_left)

pub frames_now : {D : Type 0} (w : Watch D) (store : StoreView D) (list : List Frame) → HasFrames w store list
    → Now w (Spells store.kind store.number) (λ others. others ≡ list) (area_a store) (area_b store)
frames_now w store list has =
    now_ordered w store.kind store.number (λ others. others ≡ list) store.second store.current store.other
    (λ c d c_left d_left. record {
      value = list;
      spelled = inl (record {
        epoch = store.epoch;
        current_is = record { within = has.within; are = has.are; shut = subst (ShutAt _) (sym (has.current.durable c c_left)) has.current.shut };
        other_is = under_spare w store.kind store.number store.epoch store.other_open store.other d has.other d_left;
      });
      holds = refl;
    })

-- so they mean what is held, whatever is in doubt
pub running_now : {D C S : Type 0} (w : Watch D) (sense : Sense C S) (store : StoreView D) (held : C) (doubt : Option S) → Runs w sense store held
    → Now w (Spells store.kind store.number) (Means sense held doubt) (area_a store) (area_b store)
running_now w sense store held doubt runs =
    now_weaker w (Spells store.kind store.number) (λ others. others ≡ runs.frames) (Means sense held doubt) (area_a store) (area_b store)
    (λ frames same. inl (subst (StandsFor sense held) (sym same) runs.stand)) (frames_now w store runs.frames runs.has)

-- ---- after an append

pub step_images : {D C S : Type 0} (w : Watch D) (sense : Sense C S) (kind number : ℕ) (a b a_new b_new : D) (held : C) (step : S) (gs : List Frame)
    → StandsWith sense held step gs → Extends w (Spells kind number) (λ others. others ≡ gs) a b a_new b_new
    → Extends w (Spells kind number) (StandsWith sense held step) a b a_new b_new
step_images w sense kind number a b a_new b_new held step gs stand extends =
    extends_weaker w (Spells kind number) (λ others. others ≡ gs) (StandsWith sense held step) a b a_new b_new
    (λ others is. subst (StandsWith sense held step) (sym is) stand) extends

in_doubt : {C S : Type 0} (sense : Sense C S) (held : C) (step : S) (frames : List Frame) → Means sense held None frames ⊎ StandsWith sense held step frames → Means sense held (Some step) frames
in_doubt sense held step frames (inl (inl stand)) = inl stand
in_doubt sense held step frames (inl (inr none)) = absurd none
in_doubt sense held step frames (inr stand) = inr stand

-- after one that failed: what is held, with the step or without it
pub failed_now : {D C S : Type 0} (w : Watch D) (sense : Sense C S) (kind number : ℕ) (a b a_new b_new : D) (held : C) (step : S) → CountsNow w → OnlyNow w
    → Now w (Spells kind number) (Means sense held None) a b → Extends w (Spells kind number) (StandsWith sense held step) a b a_new b_new
    → Now w (Spells kind number) (Means sense held (Some step)) a_new b_new
failed_now w sense kind number a b a_new b_new held step counts only now extends =
    now_weaker w (Spells kind number) (λ fs. Means sense held None fs ⊎ StandsWith sense held step fs) (Means sense held (Some step)) a_new b_new
    (λ frames means. in_doubt sense held step frames means)
    (now_goes_on w (Spells kind number) (Means sense held None) (StandsWith sense held step) a b a_new b_new counts only extends now)

-- ---- after a reading

still : (P : List Frame → Type 0) (frames : List Frame) → P frames ⊎ ⊥ → P frames
still P frames (inl holds) = holds
still P frames (inr none) = absurd none

-- a reading adds no image
pub still_now : {D : Type 0} (w : Watch D) (kind number : ℕ) (P : List Frame → Type 0) (a b a_new b_new : D) → CountsNow w → OnlyNow w → AddsNone w a a_new → AddsNone w b b_new
    → Now w (Spells kind number) P a b → Now w (Spells kind number) P a_new b_new
still_now w kind number P a b a_new b_new counts only none_a none_b now =
    now_weaker w (Spells kind number) (λ fs. P fs ⊎ ⊥) P a_new b_new (λ frames holds. still P frames holds)
    (now_goes_on w (Spells kind number) P (λ fs. ⊥) a b a_new b_new counts only (extends_none w (Spells kind number) (λ fs. ⊥) a b a_new b_new none_a none_b) now)

-- what was read is what each pair of images spells: P holds of it
pub read_means : {D : Type 0} (reads : ReadsBack) (w : Watch D) (kind number : ℕ) (P : List Frame → Type 0) (a b : D) (frames : List Frame) (c d : List ℕ) → Now w (Spells kind number) P a b
    → w.may_leave a c → w.may_leave b d → Spells kind number frames c d → P frames
read_means reads w kind number P a b frames c d now c_left d_left spelled =
    let tells = now c d c_left d_left in
    subst P (one_spelled reads kind number tells.value frames c d tells.spelled spelled) tells.holds
