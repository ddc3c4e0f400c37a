-- What reading the next event takes from a source, and what it finds there.
use Rattle.std.specs.Prelude.{◌≡◌, ◌≢◌, ℕ, ◌+◌, ◌≤◌, List, [], ◌∷◌, ◌++◌, length, Option, Some}
use Rattle.std.specs.Io.KnownBytes.{Consumes}
use Rattle.tab_drive.specs.Lines.{IsLine, line_text}
use Rattle.tab_drive.specs.Schedule.{Fits, IsNoEvent, spelling, end_line, line_feed}
use Rattle.tab_drive.specs.declared.lines.ScheduleLine.TheVariants as lines
use Rattle.tab_drive.specs.declared.reading.NextEvent.{NextEvent}
use Rattle.tab_drive.specs.declared.reading.NextEvent.TheVariants.{Event, End}
use Rattle.tab_drive.specs.declared.reading.Unread.{Unread}
use Rattle.tab_drive.specs.declared.reading.Unread.TheVariants.{NoEvent, Fault, Memory}
use Rattle.tab_drive.specs.declared.lines.TheConstants.{LONGEST_MESSAGE}
use Rattle.tab_drive.specs.declared.reading.TheConstants.{LONGEST_LINE}
use Rattle.tab_outside.specs.declared.transfers.FillRefused.{FillRefused}
use Rattle.tab_outside.specs.declared.transfers.FillRefused.TheVariants as fill

-- what was read was taken, in its one spelling
abbrev pub ReadsNext : Option (List ℕ) → Option (List ℕ) → NextEvent → Type 0
ReadsNext old new (Event event) = Fits event × Consumes old new (spelling event)
ReadsNext old new End = Consumes old new end_line

-- P holds of the bytes that are left, where the source tells them
abbrev pub IfTold : Option (List ℕ) → (List ℕ → Type 0) → Type 0
IfTold left P = (bytes : List ℕ) → left ≡ Some bytes → P bytes

-- the bytes go no further than one line, or than the byte behind the message that a line calls
pub data IsWithinOne (part : List ℕ) : Type 0 where
  in_line : IsLine part → length part ≤ LONGEST_LINE + 1 → IsWithinOne part
  at_line_end : (line : List ℕ) → IsLine line → length line ≤ LONGEST_LINE → part ≡ line ++ line_feed ∷ [] → IsWithinOne part
  behind_call : (size : ℕ) (bytes : List ℕ) → size ≤ LONGEST_MESSAGE → length bytes ≤ size + 1 → part ≡ line_text (lines.Call size) ++ line_feed ∷ bytes → IsWithinOne part

-- a part was taken that holds no whole event
pub record TookPart (old new : Option (List ℕ)) : Type 0 where
  pub part : List ℕ
  pub no_event : IsNoEvent part
  pub within : IsWithinOne part
  pub consumed : Consumes old new part

-- bytes of which P holds were taken
pub record Took (P : List ℕ → Type 0) (old new : Option (List ℕ)) : Type 0 where
  pub bytes : List ℕ
  pub are : P bytes
  pub consumed : Consumes old new bytes

-- a line was taken, and the line feed behind it
pub record ReadsLine (old new : Option (List ℕ)) (line : List ℕ) : Type 0 where
  pub is_line : IsLine line
  pub short : length line ≤ LONGEST_LINE
  pub consumed : Consumes old new (line ++ line_feed ∷ [])

-- no line is at the front of the bytes
abbrev pub HasNoLine : List ℕ → Type 0
HasNoLine bytes = (line rest : List ℕ) → IsLine line → length line ≤ LONGEST_LINE → bytes ≢ line ++ line_feed ∷ rest

-- a line without its end, or the front of one that is too long
pub record IsOpenLine (bytes : List ℕ) : Type 0 where
  pub is_line : IsLine bytes
  pub bound : length bytes ≤ LONGEST_LINE + 1

-- a message of this size was taken, and the line feed behind it
abbrev pub ReadsMessage : ℕ → Option (List ℕ) → Option (List ℕ) → List ℕ → Type 0
ReadsMessage size old new message = (length message ≡ size) × Consumes old new (message ++ line_feed ∷ [])

-- no message of this size, with its line feed, is at the front of the bytes
abbrev pub HasNoMessage : ℕ → List ℕ → Type 0
HasNoMessage size bytes = (message rest : List ℕ) → length message ≡ size → bytes ≢ message ++ line_feed ∷ rest

-- the front of such a message, or one with another byte behind it
pub record IsOpenMessage (size : ℕ) (bytes : List ℕ) : Type 0 where
  pub no_message : HasNoMessage size bytes
  pub bound : length bytes ≤ size + 1

-- what a message that did not come whole is answered with
abbrev pub unread_for : FillRefused → Unread
unread_for fill.Ended = NoEvent
unread_for fill.Failed = Fault
unread_for fill.Memory = Memory
