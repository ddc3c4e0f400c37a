-- The lines of a schedule, without the line feed that ends each.
use Rattle.std.specs.Prelude.{◌≢◌, ℕ, ◌<◌, ◌≤◌, ◌^◌, List, [], ◌∷◌, ◌++◌, codes, decimal}
use Rattle.tab_drive.specs.Schedule.{line_feed}
use Rattle.tab_drive.specs.declared.lines.ScheduleLine.{ScheduleLine}
use Rattle.tab_drive.specs.declared.lines.ScheduleLine.TheVariants as lines
use Rattle.tab_drive.specs.declared.lines.TheConstants.{LONGEST_MESSAGE}

-- no byte is a line feed
abbrev pub IsLine : List ℕ → Type 0
IsLine [] = Unit {0}
IsLine (byte ∷ bytes) = (byte ≢ line_feed) × IsLine bytes

-- the bytes of a line
abbrev pub line_text : ScheduleLine → List ℕ
line_text lines.End = codes "end"
line_text (lines.Now moment) = codes "now " ++ decimal moment
line_text (lines.Call size) = codes "call " ++ decimal size

-- the line's number is within its limit
abbrev pub IsInRange : ScheduleLine → Type 0
IsInRange lines.End = Unit {0}
IsInRange (lines.Now moment) = moment < 2 ^ 64
IsInRange (lines.Call size) = size ≤ LONGEST_MESSAGE
