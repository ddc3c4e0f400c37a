-- What making or opening a store answers, and why it is refused.
use Rattle.std.specs.Prelude.{◌≡◌, ℕ, ◌≤◌, ◌^◌, ◌⊎◌, length, Result, Ok, Err, Vec, vec_items, List}
use Rattle.std.specs.List.{AllByRecursion}
use Rattle.tab_outside.specs.Disks.{Watch}
use Rattle.tab_outside.specs.Faults.{Rose}
use Rattle.tab_codec.specs.declared.frames.Frame.{Frame}
use Rattle.tab_codec.specs.Frames.{HasSpelling}
use Rattle.tab_journal.specs.Areas.{front}
use Rattle.tab_journal.specs.Steps.{IsShutOn}
use Rattle.tab_journal.specs.Reading.{Found}
use Rattle.tab_journal.specs.Stores.{StoreView, current_area}
use Rattle.tab_journal.specs.declared.refusals.Back.{Back}
use Rattle.tab_journal.specs.declared.refusals.StoreRefused.TheVariants.{DiskFault, NotAStore, EpochSpent}

-- the disks are back: no count fell, and a disk fault comes only where the count of its disk rose
pub record IsRefusedFor {D : Type 0} (faults : D → ℕ) (a b : D) (back : Back D) : Type 0 where
  pub later_a : faults a ≤ faults back.a
  pub later_b : faults b ≤ faults back.b
  pub fault : (area : ℕ) → back.refused ≡ DiskFault area → ((area ≡ 0) × Rose (faults a) (faults back.a)) ⊎ ((area ≡ 1) × Rose (faults b) (faults back.b))
  pub not_spent : back.refused ≡ EpochSpent → ⊥

-- an opening gives just the frames that the areas spell, and the store goes on from their area and epoch; or it names just the
-- first place that has no spelling
abbrev pub Opens : {D Z : Type 0} → Result (StoreView D × Vec Frame Z) (Back D) → Result Found (ℕ × ℕ) → Type 0
Opens (Ok opened) read = read ≡ Ok (record { area = current_area opened.0; epoch = opened.0.epoch; frames = vec_items opened.1 })
Opens (Err back) read = (area at : ℕ) → back.refused ≡ NotAStore area at → read ≡ Err (area, at)

-- an area is open with the first epoch and these frames, which end at an offset, and a crash leaves just that
pub record IsMade {D : Type 0} (w : Watch D) (kind number : ℕ) (frames : List Frame) (end : ℕ) (disk : D) : Type 0 where
  pub spelled : AllByRecursion HasSpelling frames
  pub shut : IsShutOn w (front kind number 1 frames) disk
  pub size : end ≡ length (front kind number 1 frames)
  pub within : end ≤ 2 ^ 62
