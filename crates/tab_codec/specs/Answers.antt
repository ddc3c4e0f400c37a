-- What a reading answers.
use Rattle.std.specs.Prelude.{◌≡◌, ℕ, List, Result, Ok, Err}
use Rattle.tab_codec.specs.Frames.{BeginsWith}
use Rattle.tab_codec.specs.declared.frames.Frame.{Frame}
use Rattle.tab_codec.specs.declared.reading.CodecRefused.{CodecRefused}
use Rattle.tab_codec.specs.declared.reading.CodecRefused.TheVariants.{NoSpelling, Memory}

-- the answer is what reading gives, unless no memory was found
abbrev pub Answers : Result (Frame × ℕ) CodecRefused → Result (Frame × ℕ) ℕ → Type 0
Answers (Ok found) read = read ≡ Ok found
Answers (Err (NoSpelling at)) read = read ≡ Err at
Answers (Err Memory) read = Unit {0}

-- the bytes begin with the spelling of the frame that is answered, and with none where the answer is that there is none
abbrev pub Tells : Result (Frame × ℕ) CodecRefused → List ℕ → Type 0
Tells (Ok found) bytes = BeginsWith found.0 found.1 bytes
Tells (Err (NoSpelling at)) bytes = (frame : Frame) (size : ℕ) → BeginsWith frame size bytes → ⊥
Tells (Err Memory) bytes = Unit {0}
