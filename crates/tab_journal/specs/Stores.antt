-- What contracts see of a store, and what its two disks hold.
use Rattle.std.specs.Prelude.{◌≡◌, ℕ, ◌+◌, ◌<◌, ◌≤◌, ◌^◌, ◌⊎◌, List, [], ◌∷◌, ◌++◌, ◌==◌, length, take, Bool, true, false, cond, Option, None, Some, Result, Ok, Err, Vec, vec_items}
use Rattle.tab_outside.specs.Disks.{Watch, LeavesOnly}
use Rattle.tab_outside.specs.Pairs.{Since}
use Rattle.tab_outside.specs.Faults.{Rose}
use Rattle.tab_codec.specs.declared.frames.Frame.{Frame}
use Rattle.tab_journal.specs.Areas.{header, opened, front, first_gate, AreFrames, IsOpen, IsUnder, IsOlder, IsClosed, Spells}
use Rattle.tab_journal.specs.Steps.{EachNow, IsShutOn, IsBuilt}
use Rattle.tab_journal.specs.Reading.{Found}
use Rattle.tab_journal.specs.declared.reading.AreaFrames.{AreaFrames}
use Rattle.tab_journal.specs.declared.reading.Reading.{Reading}
use Rattle.tab_journal.specs.declared.reading.Unread.{Unread}
use Rattle.tab_journal.specs.declared.reading.Unread.TheVariants as unread
use Rattle.tab_journal.specs.declared.refusals.StoreRefused.{StoreRefused}
use Rattle.tab_journal.specs.declared.refusals.StoreRefused.TheVariants.{DiskFault, NotAStore, EpochSpent, Memory}

-- what contracts see of a store: its kind and its server's number; the disk of the current area and the other one, and whether
-- the current one is area 1; the current epoch, where the frames end, and whether the other area is open; where the pieces of a
-- compaction end, while there is one; the gates of the frames that are known; and whether the store has failed
pub record StoreView (D : Type 0) : Type 0 where
  pub kind : ℕ
  pub number : ℕ
  pub current : D
  pub other : D
  pub second : Bool
  pub epoch : ℕ
  pub end : ℕ
  pub other_open : Bool
  pub building : Option ℕ
  pub places : List ℕ
  pub failed : Bool

-- the disks of area 0 and of area 1
abbrev pub area_a : {D : Type 0} → StoreView D → D
area_a store = cond store.second store.other store.current

abbrev pub area_b : {D : Type 0} → StoreView D → D
area_b store = cond store.second store.current store.other

-- the disk of an area by its number
abbrev pub area_of : {D : Type 0} → StoreView D → ℕ → D
area_of store area = cond (area == 0) (area_a store) (area_b store)

-- the number of the current area
abbrev pub current_area : {D : Type 0} → StoreView D → ℕ
current_area store = cond store.second 1 0

-- the store stands on the same disks in the same order, whatever they hold now
pub record IsSameStore {D : Type 0} (old new : StoreView D) : Type 0 where
  pub kind : new.kind ≡ old.kind
  pub number : new.number ≡ old.number

-- nothing of the store changed but what its disks hold
pub record IsUnmoved {D : Type 0} (old new : StoreView D) : Type 0 where
  pub same : IsSameStore old new
  pub second : new.second ≡ old.second
  pub epoch : new.epoch ≡ old.epoch
  pub end : new.end ≡ old.end
  pub other_open : new.other_open ≡ old.other_open
  pub places : new.places ≡ old.places

-- both disks have failures and stops where they had them
pub record KeepsStops {D : Type 0} (has_stops : D → Bool) (old new : StoreView D) : Type 0 where
  pub a : has_stops (area_a new) ≡ has_stops (area_a old)
  pub b : has_stops (area_b new) ≡ has_stops (area_b old)

-- ---- causes

-- a disk fault of an area comes only where that disk's count rose, and no count falls
pub record HasCauses {D T : Type 0} (faults : D → ℕ) (a b a_new b_new : D) (result : Result T StoreRefused) : Type 0 where
  pub later_a : faults a ≤ faults a_new
  pub later_b : faults b ≤ faults b_new
  pub fault : (area : ℕ) → result ≡ Err (DiskFault area) → ((area ≡ 0) × Rose (faults a) (faults a_new)) ⊎ ((area ≡ 1) × Rose (faults b) (faults b_new))

-- the same of a store that was lent
abbrev pub StoreCauses : {D T : Type 0} → (D → ℕ) → StoreView D → StoreView D → Result T StoreRefused → Type 0
StoreCauses faults old new result = HasCauses faults (area_a old) (area_b old) (area_a new) (area_b new) result

-- a store fails by a disk fault, and by no other refusal
abbrev pub fails_by : {T : Type 0} → Bool → Result T StoreRefused → Bool
fails_by before (Err (DiskFault area)) = true
fails_by before _ = before

abbrev pub is_fault : StoreRefused → Bool
is_fault (DiskFault area) = true
is_fault _ = false

-- a call is refused by disk faults alone
abbrev pub IsFaultAlone : {T : Type 0} → Result T StoreRefused → Type 0
IsFaultAlone (Ok x) = Unit {0}
IsFaultAlone (Err (DiskFault area)) = Unit {0}
IsFaultAlone (Err _) = ⊥

-- a compaction is refused by disk faults and by the last epoch alone
abbrev pub IsFaultOrSpent : {T : Type 0} → Result T StoreRefused → Type 0
IsFaultOrSpent (Err (NotAStore area at)) = ⊥
IsFaultOrSpent (Err Memory) = ⊥
IsFaultOrSpent _ = Unit {0}

-- a call that reads is refused for disk faults and want of memory alone
abbrev pub IsFaultOrMemory : {T : Type 0} → Result T StoreRefused → Type 0
IsFaultOrMemory (Err (NotAStore area at)) = ⊥
IsFaultOrMemory (Err EpochSpent) = ⊥
IsFaultOrMemory _ = Unit {0}

-- a place that has no spelling is in area 0 or area 1
abbrev pub IsInArea : StoreRefused → Type 0
IsInArea (NotAStore area at) = area ≤ 1
IsInArea _ = Unit {0}

-- ---- what was read

-- the store after a reading: the area that counts is the current one
abbrev pub adopted : {D : Type 0} → StoreView D → Reading → StoreView D
adopted store reading = record {
  kind = store.kind;
  number = store.number;
  current = cond (reading.area == 1) (area_b store) (area_a store);
  other = cond (reading.area == 1) (area_a store) (area_b store);
  second = reading.area == 1;
  epoch = reading.epoch;
  end = reading.found.end;
  other_open = reading.other_open;
  building = None;
  places = vec_items reading.found.places;
  failed = false;
}

-- where the gates of frames stand, the first at an offset
unfoldable pub gates_from : ℕ → List Frame → List ℕ
gates_from at [] = []
gates_from at (frame ∷ frames) = at ∷ gates_from (at + length (opened (frame ∷ []))) frames

-- the frames of an area were read, or the place that has no spelling
abbrev pub ReadsFrames : Result AreaFrames Unread → Result (List Frame) ℕ → Type 0
ReadsFrames (Ok found) read =
    (read ≡ Ok (vec_items found.frames)) × (vec_items found.places ≡ gates_from first_gate (vec_items found.frames)) × (found.end ≡ first_gate + length (opened (vec_items found.frames)))
ReadsFrames (Err (unread.At at)) read = read ≡ Err at
ReadsFrames (Err unread.Memory) read = Unit {0}

-- the frames of two areas were read, or the first place that has no spelling
abbrev pub ReadsAreas : Result Reading StoreRefused → Result Found (ℕ × ℕ) → Type 0
ReadsAreas (Ok reading) read =
    (read ≡ Ok (record { area = reading.area; epoch = reading.epoch; frames = vec_items reading.found.frames }))
    × (vec_items reading.found.places ≡ gates_from first_gate (vec_items reading.found.frames))
    × (reading.found.end ≡ first_gate + length (opened (vec_items reading.found.frames)))
ReadsAreas (Err (NotAStore area at)) read = read ≡ Err (area, at)
ReadsAreas (Err Memory) read = Unit {0}
ReadsAreas (Err _) read = ⊥

-- what a call answers that reads both areas: just these frames, and the store goes on from the area and the epoch in which they
-- stand; or just the first place that has no spelling
abbrev pub Answers : {D : Type 0} {Z : Type 0} → StoreView D → Result (Vec Frame Z) StoreRefused → Result Found (ℕ × ℕ) → Type 0
Answers new (Ok frames) read = read ≡ Ok (record { area = current_area new; epoch = new.epoch; frames = vec_items frames })
Answers new (Err (NotAStore area at)) read = read ≡ Err (area, at)
Answers new (Err EpochSpent) read = ⊥
Answers new (Err _) read = Unit {0}

-- ---- a store that runs

-- the other area does not count: it is known to be closed, or it is open with a lower epoch and a crash leaves just that
pub record IsSpare {D : Type 0} (w : Watch D) (kind number epoch : ℕ) (is_open : Bool) (disk : D) : Type 0 where
  pub shut : is_open ≡ false → EachNow w IsClosed disk
  pub older : is_open ≡ true → IsOlder kind number epoch (w.seen disk) × LeavesOnly w disk (w.seen disk)

-- a store that has not failed, with these frames: they are all that a crash leaves of its areas
pub record HasFrames {D : Type 0} (w : Watch D) (store : StoreView D) (frames : List Frame) : Type 0 where
  pub running : store.failed ≡ false
  pub within : store.epoch < 2 ^ 64
  pub are : AreFrames store.kind frames
  pub current : IsShutOn w (front store.kind store.number store.epoch frames) store.current
  pub end : store.end ≡ length (front store.kind store.number store.epoch frames)
  pub short : store.end + 1 < 2 ^ 64
  pub other : IsSpare w store.kind store.number store.epoch store.other_open store.other
  pub places : store.places ≡ take (length store.places) (gates_from first_gate frames)

-- a store in whose other area pieces of a compaction stand
pub record HasPieces {D : Type 0} (w : Watch D) (store : StoreView D) (pieces : List Frame) : Type 0 where
  pub built : IsBuilt w (header store.kind store.number (store.epoch + 1) ++ opened pieces) store.other
  pub end : store.building ≡ Some (length (front store.kind store.number (store.epoch + 1) pieces))
  pub short : length (front store.kind store.number (store.epoch + 1) pieces) + 1 < 2 ^ 64
  pub below : store.epoch + 1 < 2 ^ 64
  pub shut : store.other_open ≡ false

-- every image since some moments of a compaction: of the current area, that it is open with the frames, and of the other one,
-- that it does not count beside it; ta and tb are moments of areas 0 and 1
pub record KeptSince {D : Type 0} (w : Watch D) (store : StoreView D) (frames : List Frame) (ta tb : ℕ) : Type 0 where
  pub earlier_a : ta ≤ w.moment (area_a store)
  pub earlier_b : tb ≤ w.moment (area_b store)
  pub current : (c : List ℕ) → w.left_since store.current (cond store.second tb ta) c → IsOpen store.kind store.number store.epoch frames c
  pub other : (d : List ℕ) → w.left_since store.other (cond store.second ta tb) d → IsUnder store.kind store.number store.epoch d

-- each pair of images since some moments spells the frames or the pieces
pub record SpellsEither {D : Type 0} (w : Watch D) (kind number : ℕ) (frames pieces : List Frame) (ta tb : ℕ) (a b : D) : Type 0 where
  pub earlier_a : ta ≤ w.moment a
  pub earlier_b : tb ≤ w.moment b
  pub each : Since w (Spells kind number) (λ others. (others ≡ frames) ⊎ (others ≡ pieces)) ta tb a b
