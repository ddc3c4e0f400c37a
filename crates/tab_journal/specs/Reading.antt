-- Reading two areas: the frames that they spell, or the first place that has no spelling.
use Rattle.std.specs.Prelude.{ℕ, zero, suc, ◌+◌, List, [], ◌∷◌, length, take, drop, Bool, true, false, ◌==◌, nat_lt, min, Result, Ok, Err, if◌then◌else◌}
use Rattle.std.specs.Int.{w64, from_be_bytes}
use Rattle.tab_codec.specs.declared.frames.Frame.{Frame}
use Rattle.tab_codec.specs.Reading.{frame_at}
use Rattle.tab_journal.specs.Fitting.{told_first, takes, after, is_whole_store}
use Rattle.tab_journal.specs.Areas.{stamp, first_gate}
use Rattle.tab_journal.specs.declared.fitting.Told.{Told}
use Rattle.tab_journal.specs.declared.reading.Front.{Front}
use Rattle.tab_journal.specs.declared.reading.Front.TheVariants.{Empty, Closed, NoHeader, Open}

-- a frame before those that follow it
abbrev pub followed_by : Frame → Result (List Frame) ℕ → Result (List Frame) ℕ
followed_by frame (Err at) = Err at
followed_by frame (Ok frames) = Ok (frame ∷ frames)

-- the frame behind an open gate at an offset, and what follows it: its own bytes have no spelling, at their place, or it
-- does not fit, at its gate
abbrev pub behind_gate : Told → ℕ → Result (Frame × ℕ) ℕ → (Frame → ℕ → Result (List Frame) ℕ) → Result (List Frame) ℕ
behind_gate told at (Err place) rest = Err (at + 1 + place)
behind_gate told at (Ok (frame, count)) rest = if takes told frame then followed_by frame (rest frame count) else Err at

-- the frames from the gate at an offset on, up to the first that is not open, or the first place without a spelling. A
-- gate that is missing has none, nor has one behind which a map or names lack their first frame. More steps than there
-- are bytes are enough.
unfoldable pub frames_from : ℕ → Told → ℕ → List ℕ → Result (List Frame) ℕ
frames_from zero told at bytes = Err at
frames_from (suc steps) told at [] = Err at
frames_from (suc steps) told at (gate ∷ bytes) =
    if gate == 1
    then behind_gate told at (frame_at bytes) (λ frame count. frames_from steps (after told frame) (at + 1 + count) (drop count bytes))
    else (if is_whole_store told then Ok [] else Err at)

-- the frames of an area of this kind
abbrev pub frames_of : ℕ → List ℕ → Result (List Frame) ℕ
frames_of kind area = frames_from (suc (length area)) (told_first kind) first_gate (drop first_gate area)

-- how many of the first bytes agree
unfoldable pub agreeing : List ℕ → List ℕ → ℕ
agreeing [] others = 0
agreeing (byte ∷ bytes) [] = 0
agreeing (byte ∷ bytes) (other ∷ others) = if byte == other then suc (agreeing bytes others) else 0

-- the header behind an open gate: its epoch, or the first byte that no header of this store has there; no header has a
-- kind above 2
unfoldable pub header_of : ℕ → ℕ → List ℕ → Front
header_of kind number bytes =
    if nat_lt 2 kind then NoHeader (1 + min 9 (agreeing (stamp kind number) bytes))
    else if nat_lt (agreeing (stamp kind number) bytes) 11 then NoHeader (1 + agreeing (stamp kind number) bytes)
    else (if nat_lt (length bytes) 19 then NoHeader (1 + length bytes) else Open (from_be_bytes w64 (take 8 (drop 11 bytes))))

-- what stands at the front of an area
unfoldable pub front_of : ℕ → ℕ → List ℕ → Front
front_of kind number [] = Empty
front_of kind number (gate ∷ bytes) = if gate == 1 then header_of kind number bytes else Closed

-- there is a header
abbrev pub is_open : Front → Bool
is_open (Open epoch) = true
is_open _ = false

-- the frames of two areas, in which area they stand and with which epoch
pub record Found : Type 0 where
  pub area : ℕ
  pub epoch : ℕ
  pub frames : List Frame

-- the frames are those of an area, or the place in it has no spelling
abbrev pub found_in : ℕ → ℕ → Result (List Frame) ℕ → Result Found (ℕ × ℕ)
found_in area epoch (Ok frames) = Ok (record { area = area; epoch = epoch; frames = frames })
found_in area epoch (Err at) = Err (area, at)

-- area 1 has no spelling at a place; but a place of area 0 comes first
abbrev pub not_before : Result (List Frame) ℕ → ℕ → Result Found (ℕ × ℕ)
not_before (Ok frames) at = Err (1, at)
not_before (Err place) at = Err (0, place)

-- The frames that two areas spell, by what stands at their fronts, or the first place without a spelling, area 0 first.
-- Where no area is open it is the front of area 0, where one has no bytes its front, and where both have the same epoch
-- that of area 0. Frames are looked at in the area that counts alone: the one that is open with the greater epoch.
unfoldable pub found : Front → Front → Result (List Frame) ℕ → Result (List Frame) ℕ → Result Found (ℕ × ℕ)
found Empty second in_a in_b = Err (0, 0)
found (NoHeader at) second in_a in_b = Err (0, at)
found Closed Empty in_a in_b = Err (0, 0)
found Closed Closed in_a in_b = Err (0, 0)
found Closed (NoHeader at) in_a in_b = Err (1, at)
found Closed (Open epoch) in_a in_b = found_in 1 epoch in_b
found (Open epoch) Empty in_a in_b = not_before in_a 0
found (Open epoch) Closed in_a in_b = found_in 0 epoch in_a
found (Open epoch) (NoHeader at) in_a in_b = not_before in_a at
found (Open epoch) (Open other) in_a in_b =
    if epoch == other then Err (0, 12) else (if nat_lt other epoch then found_in 0 epoch in_a else found_in 1 other in_b)

-- what two areas of a store of this kind and number spell
abbrev pub read_areas : ℕ → ℕ → List ℕ → List ℕ → Result Found (ℕ × ℕ)
read_areas kind number a b = found (front_of kind number a) (front_of kind number b) (frames_of kind a) (frames_of kind b)
