-- What making a store over a yard of disks begins with, leaves and answers.
use Rattle.std.specs.Prelude.{◌≡◌, ◌≢◌, ℕ, zero, suc, ◌+◌, ◌*◌, ◌<◌, ◌≤◌, List, [], ◌∷◌, length, get_or, slice_get, Some}
use Rattle.tab_outside.specs.Disks.{Watch}
use Rattle.tab_outside.specs.Faults.{Rose}
use Rattle.tab_outside.specs.Pairs.{Now}
use Rattle.tab_journal.specs.Areas.{Spells}
use Rattle.tab_codec.specs.declared.frames.Frame.{Frame}
use Rattle.tab_codec.specs.declared.frames.Frame.TheVariants as frames
use Rattle.tab_core.specs.Courses.{first_row}
use Rattle.tab_core.specs.Points.{pairs_of, kind_of, number_of}

-- so many disks are two for the map, two for the names, and two for each of one to eight servers
pub record IsYard (disks : ℕ) : Type 0 where
  pub servers : ℕ
  pub least : 1 ≤ servers
  pub most : servers ≤ 8
  pub count : disks ≡ 2 * (servers + 2)

-- the first disk whose length is not 0
pub record IsFirstFilled {D : Type 0} (w : Watch D) (yard : List D) (disk : ℕ) : Type 0 where
  pub within : disk < length yard
  pub filled : (d : D) → length (w.seen (get_or yard disk d)) ≢ 0
  pub before : (k : ℕ) (d : D) → k < disk → length (w.seen (get_or yard k d)) ≡ 0

-- a disk's count of faults rose
pub record RoseAt {D : Type 0} (faults : D → ℕ) (old new : List D) (disk : ℕ) : Type 0 where
  pub within : disk < length old
  pub rose : (d e : D) → Rose (faults (get_or old disk d)) (faults (get_or new disk e))

-- the frames with which store k begins: the map its one range, the names none, and server 0 that range, without rows
unfoldable pub first_frames : ℕ → List Frame
first_frames zero = frames.Map 2 1 (record { range = first_row.range; server = first_row.server; span = first_row.span } ∷ []) ∷ []
first_frames (suc zero) = frames.Names 1 [] ∷ []
first_frames (suc (suc zero)) = frames.Begin first_row.range first_row.span 0 ∷ frames.Whole first_row.range 0 ∷ []
first_frames store = []

-- the disks of store k spell the frames with which it begins
abbrev pub IsMade : {D : Type 0} → Watch D → ℕ → D → D → Type 0
IsMade w store a b = Now w (Spells (kind_of store) (number_of store)) (λ frames. frames ≡ first_frames store) a b

-- and so those of each store of a yard
abbrev pub AreMade : {D : Type 0} → Watch D → List D → Type 0
AreMade w yard = (store : ℕ) (pair : _ × _) → slice_get (pairs_of yard) store ≡ Some pair → IsMade w store pair.0 pair.1
