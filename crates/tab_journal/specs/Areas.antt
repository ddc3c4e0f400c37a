-- How an area is spelled, and which frames two areas spell together.
use Rattle.std.specs.Prelude.{◌≡◌, ◌≢◌, ℕ, ◌<◌, ◌^◌, ◌⊎◌, ◌==◌, if◌then◌else◌, List, [], ◌∷◌, ◌++◌, true, codes}
use Rattle.std.specs.List.{AllByRecursion}
use Rattle.std.specs.Int.{w64, to_be_bytes}
use Rattle.tab_codec.specs.declared.frames.Frame.{Frame}
use Rattle.tab_codec.specs.Spelling.{spelling}
use Rattle.tab_codec.specs.Frames.{HasSpelling}
use Rattle.tab_journal.specs.Fitting.{told_first, told_by, takes_all, is_whole_store}

-- what an area's header begins with, behind its gate: a mark, the version 1, the kind of the store, and of a server's store
-- the server's number, else 0
abbrev pub stamp : ℕ → ℕ → List ℕ
stamp kind number = codes "TABSTORE" ++ 1 ∷ kind ∷ (if kind == 2 then number else 0) ∷ []

-- the header, behind the area's gate
unfoldable pub header : ℕ → ℕ → ℕ → List ℕ
header kind number epoch = stamp kind number ++ to_be_bytes w64 epoch

-- where the gate of the first frame stands
abbrev pub first_gate : ℕ
first_gate = 20

-- frames, each behind its open gate
unfoldable pub opened : List Frame → List ℕ
opened [] = []
opened (frame ∷ frames) = 1 ∷ (spelling frame ++ opened frames)

-- the area up to the gate behind the frames
unfoldable pub front : ℕ → ℕ → ℕ → List Frame → List ℕ
front kind number epoch frames = 1 ∷ (header kind number epoch ++ opened frames)

-- bytes, and then a gate that is not open, whatever follows it
pub record ShutAt (before area : List ℕ) : Type 0 where
  pub gate : ℕ
  pub rest : List ℕ
  pub shut : gate ≢ 1
  pub is : area ≡ before ++ gate ∷ rest

-- frames of a store: each has a spelling and fits those before it, and a map or names have their first one
pub record AreFrames (kind : ℕ) (frames : List Frame) : Type 0 where
  pub spelled : AllByRecursion HasSpelling frames
  pub fit : takes_all (told_first kind) frames ≡ true
  pub whole : is_whole_store (told_by kind frames) ≡ true

-- an area that is open with this epoch and these frames
pub record IsOpen (kind number epoch : ℕ) (frames : List Frame) (area : List ℕ) : Type 0 where
  pub within : epoch < 2 ^ 64
  pub are : AreFrames kind frames
  pub shut : ShutAt (front kind number epoch frames) area

-- an area that is closed
abbrev pub IsClosed : List ℕ → Type 0
IsClosed area = ShutAt [] area

-- an area that is open with a lower epoch, whatever follows its header
pub record IsOlder (kind number epoch : ℕ) (area : List ℕ) : Type 0 where
  pub older : ℕ
  pub lower : older < epoch
  pub rest : List ℕ
  pub is : area ≡ 1 ∷ (header kind number older ++ rest)

-- an area that does not count beside one that is open with this epoch
abbrev pub IsUnder : ℕ → ℕ → ℕ → List ℕ → Type 0
IsUnder kind number epoch area = IsClosed area ⊎ IsOlder kind number epoch area

-- the one area is open with these frames, and the other does not count beside it
pub record Keeps (kind number : ℕ) (frames : List Frame) (current other : List ℕ) : Type 0 where
  pub epoch : ℕ
  pub current_is : IsOpen kind number epoch frames current
  pub other_is : IsUnder kind number epoch other

-- the two areas of a store spell these frames, whichever of them is the current one
abbrev pub Spells : ℕ → ℕ → List Frame → List ℕ → List ℕ → Type 0
Spells kind number frames a b = Keeps kind number frames a b ⊎ Keeps kind number frames b a
