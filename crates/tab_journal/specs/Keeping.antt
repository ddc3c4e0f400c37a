-- What a store's two disks say of what is held in memory, with one step in doubt at most.
use Rattle.std.specs.Prelude.{◌≡◌, ℕ, ◌⊎◌, List, [], ◌∷◌, ◌++◌, Bool, false, true, Option, Some, None}
use Rattle.tab_outside.specs.Disks.{Watch}
use Rattle.tab_outside.specs.Pairs.{Now}
use Rattle.tab_codec.specs.declared.frames.Frame.{Frame}
use Rattle.tab_journal.specs.Areas.{AreFrames, Spells}
use Rattle.tab_journal.specs.Fitting.{Fits}
use Rattle.tab_journal.specs.Stores.{StoreView, area_a, area_b, HasFrames}

-- What contracts see of a kind of content C with steps S: the kind of its stores; what frames tell of a content, which is a
-- part of it; which frames stand for that part, and which are those of a checkpoint of it; which steps it takes, the frame of a
-- step, and what a step makes of it; and what the step wants and does besides, in memory alone.
pub record Sense (C S : Type 0) : Type 1 where
  pub kind : ℕ
  pub Told : Type 0
  pub tells : C → Told
  pub stands : List Frame → Told → Type 0
  pub is_checkpoint : List Frame → Told → Type 0
  pub fits : Told → S → Type 0
  pub frame_of : S → Frame
  pub stepped : Told → S → Told
  pub ready : C → S → Type 0
  pub done : C → S → C → Type 0

-- a step's frame goes on from frames of a store that stand for what was told
abbrev pub GoesOn : {C S : Type 0} → Sense C S → Type 0
GoesOn sense = (frames : List Frame) (told : sense.Told) (step : _) → AreFrames sense.kind frames → sense.fits told step → sense.stands frames told
    → Fits sense.kind frames (sense.frame_of step) × sense.stands (frames ++ sense.frame_of step ∷ []) (sense.stepped told step)

-- the frames of a checkpoint are frames of a store, and stand for what is told
abbrev pub ChecksOut : {C S : Type 0} → Sense C S → Type 0
ChecksOut sense = (frames : List Frame) (told : sense.Told) → sense.is_checkpoint frames told → AreFrames sense.kind frames × sense.stands frames told

-- the frames stand for what is held
abbrev pub StandsFor : {C S : Type 0} → Sense C S → C → List Frame → Type 0
StandsFor sense held frames = sense.stands frames (sense.tells held)

-- the frames stand for what is held with a step
abbrev pub StandsWith : {C S : Type 0} → Sense C S → C → S → List Frame → Type 0
StandsWith sense held step frames = sense.stands frames (sense.stepped (sense.tells held) step)

-- the frames stand for what is held with the step in doubt
abbrev pub IfDoubt : {C S : Type 0} → Sense C S → C → Option S → List Frame → Type 0
IfDoubt sense held None frames = ⊥
IfDoubt sense held (Some step) frames = StandsWith sense held step frames

-- the frames stand for what is held, or for that with the step in doubt
abbrev pub Means : {C S : Type 0} → Sense C S → C → Option S → List Frame → Type 0
Means sense held doubt frames = StandsFor sense held frames ⊎ IfDoubt sense held doubt frames

-- a store that runs has frames that stand for what is held
pub record Runs {D C S : Type 0} (w : Watch D) (sense : Sense C S) (store : StoreView D) (held : C) : Type 0 where
  pub frames : List Frame
  pub has : HasFrames w store frames
  pub stand : StandsFor sense held frames

-- what contracts see of something kept: its store, what it holds in memory, the step in doubt, and whether the store has to be
-- read anew
pub record KeptView (D C S : Type 0) : Type 0 where
  pub store : StoreView D
  pub held : C
  pub doubt : Option S
  pub failed : Bool

-- nothing is in doubt, and the store has not failed, unless it has to be read anew
abbrev pub IsClear : {D C S : Type 0} → KeptView D C S → Type 0
IsClear kept = kept.failed ≡ false → (kept.store.failed ≡ false) × (kept.doubt ≡ None)

-- what is known of something kept at each moment between two calls
pub record IsSound {D C S : Type 0} (w : Watch D) (sense : Sense C S) (kept : KeptView D C S) : Type 0 where
  pub kind : kept.store.kind ≡ sense.kind
  pub now : Now w (Spells kept.store.kind kept.store.number) (Means sense kept.held kept.doubt) (area_a kept.store) (area_b kept.store)
  pub runs : kept.failed ≡ false → Runs w sense kept.store kept.held

-- a step was done in memory
pub record IsDone {C S : Type 0} (sense : Sense C S) (old : C) (step : S) (new : C) : Type 0 where
  pub told : sense.tells new ≡ sense.stepped (sense.tells old) step
  pub done : sense.done old step new

-- the step in doubt may be done in memory
abbrev pub IsReady : {C S : Type 0} → Sense C S → C → Option S → Type 0
IsReady sense held None = Unit {0}
IsReady sense held (Some step) = sense.fits (sense.tells held) step × sense.ready held step

-- the step in doubt stands and was done, or what was held is held still
abbrev pub IsSettled : {C S : Type 0} → Sense C S → C → Option S → C → Bool → Type 0
IsSettled sense held doubt after false = after ≡ held
IsSettled sense held None after true = ⊥
IsSettled sense held (Some step) after true = IsDone sense held step after

-- frames that stood for what was held stand for what is held now, with the step in doubt and without it
pub record StandsStill {C S : Type 0} (sense : Sense C S) (old : C) (doubt : Option S) (new : C) : Type 0 where
  pub still : (frames : List Frame) → StandsFor sense old frames → StandsFor sense new frames
  pub in_doubt : (frames : List Frame) → IfDoubt sense old doubt frames → IfDoubt sense new doubt frames

-- the store has just the frames of a checkpoint of what is held
pub record IsRewritten {D C S : Type 0} (w : Watch D) (sense : Sense C S) (kept : KeptView D C S) : Type 0 where
  pub frames : List Frame
  pub has : HasFrames w kept.store frames
  pub checks : sense.is_checkpoint frames (sense.tells kept.held)
