-- What a crash leaves at any moment of a step.
use Rattle.std.proofs.Common.{ℕ, List, arith}
use Rattle.std.specs.Prelude.{◌⊎◌}
use Rattle.tab_outside.specs.Disks.{Watch, OnlyNow}
use Rattle.tab_outside.specs.Pairs.{Now, Since, Extends}
use Rattle.tab_outside.proofs.Moments.{since_begins, since_goes_on}
use Rattle.tab_codec.specs.declared.frames.Frame.{Frame}
use Rattle.tab_journal.specs.Areas.{Spells}
use Rattle.tab_core.specs.Courses.{Course}
use Rattle.tab_core.specs.Points.{Point, kind_of, number_of, HoldStores}
use Rattle.tab_core.specs.Images.{StepImages, EachExtends}

-- the two disks of one store: what they spelled when the step began, or what was written since
pair_images : {D : Type 0} (w : Watch D) (kind number : ℕ) (P Q : List Frame → Type 0) (old new : D × D) → OnlyNow w
    → Now w (Spells kind number) P old.0 old.1 → Extends w (Spells kind number) Q old.0 old.1 new.0 new.1
    → Since w (Spells kind number) (λ frames. P frames ⊎ Q frames) (w.moment old.0) (w.moment old.1) new.0 new.1
pair_images w kind number P Q old new only now extends =
    since_goes_on w (Spells kind number) P Q (w.moment old.0) (w.moment old.1) old.0 old.1 new.0 new.1 extends (omega arith) (omega arith)
    (since_begins w (Spells kind number) P old.0 old.1 only now)

-- and so those of each store
pub step_images : {D : Type 0} (w : Watch D) (before after : Course) (stores stores_new : List (D × D)) → OnlyNow w → HoldStores w before stores → EachExtends w after stores stores_new
    → StepImages w before after stores stores_new
step_images w before after stores stores_new only holds extends k old new is is_new =
    pair_images w (kind_of k) (number_of k) (Point before k) (Point after k) old new only (holds k old is) (extends k old new is is_new)
