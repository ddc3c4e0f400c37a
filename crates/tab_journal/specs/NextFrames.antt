-- Reading one frame of an area behind those before it.
use Rattle.std.specs.Prelude.{◌≡◌, ℕ, List, true, Result, Ok, Err}
use Rattle.tab_codec.specs.declared.frames.Frame.{Frame}
use Rattle.tab_codec.specs.Frames.{BeginsWith}
use Rattle.tab_codec.specs.Reading.{frame_at}
use Rattle.tab_journal.specs.Fitting.{takes, after}
use Rattle.tab_journal.specs.Reading.{behind_gate}
use Rattle.tab_journal.specs.declared.fitting.Told.{Told}
use Rattle.tab_journal.specs.declared.reading.Unread.{Unread}
use Rattle.tab_journal.specs.declared.reading.Unread.TheVariants as unread

-- a frame is read that fits those before it, and what it tells is told
pub record IsNext (old new : Told) (bytes : List ℕ) (frame : Frame) (size : ℕ) : Type 0 where
  pub read : frame_at bytes ≡ Ok (frame, size)
  pub fits : takes old frame ≡ true
  pub told : new ≡ after old frame
  pub begins : BeginsWith frame size bytes

-- behind an open gate at an offset a frame is read, or there is none: the place without a spelling is this one, whatever
-- would follow
abbrev pub ReadsNext : Told → Told → ℕ → List ℕ → Result (Frame × ℕ) Unread → Type 0
ReadsNext old new at bytes (Ok found) = IsNext old new bytes found.0 found.1
ReadsNext old new at bytes (Err (unread.At place)) = (rest : Frame → ℕ → Result (List Frame) ℕ) → behind_gate old at (frame_at bytes) rest ≡ Err place
ReadsNext old new at bytes (Err unread.Memory) = Unit {0}
