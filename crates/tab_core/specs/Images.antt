-- What the disks of all stores have to do with a course before a step and with the one behind it.
use Rattle.std.specs.Prelude.{◌≡◌, ◌⊎◌, ℕ, List, Some, slice_get}
use Rattle.tab_outside.specs.Disks.{Watch}
use Rattle.tab_outside.specs.Pairs.{Since, Extends}
use Rattle.tab_journal.specs.Areas.{Spells}
use Rattle.tab_core.specs.Courses.{Course}
use Rattle.tab_core.specs.Points.{Point, kind_of, number_of}

-- Whatever a crash leaves at any moment of a step, the two disks of each store spell the point of the course before the step, or of the one behind it.
abbrev pub StepImages : {D : Type 0} → Watch D → Course → Course → List (D × D) → List (D × D) → Type 0
StepImages w before after stores stores_new =
    (k : ℕ) (old new : _ × _) → slice_get stores k ≡ Some old → slice_get stores_new k ≡ Some new
    → Since w (Spells (kind_of k) (number_of k)) (λ frames. Point before k frames ⊎ Point after k frames) (w.moment old.0) (w.moment old.1) new.0 new.1

-- what is written on the disks of each store extends what they spelled by frames that meet its point behind the step
abbrev pub EachExtends : {D : Type 0} → Watch D → Course → List (D × D) → List (D × D) → Type 0
EachExtends w after stores stores_new =
    (k : ℕ) (old new : _ × _) → slice_get stores k ≡ Some old → slice_get stores_new k ≡ Some new
    → Extends w (Spells (kind_of k) (number_of k)) (Point after k) old.0 old.1 new.0 new.1
