-- How a schedule is spelled: its events one after another, and the line `end`.
use Rattle.std.specs.Prelude.{◌≡◌, ℕ, ◌<◌, ◌≤◌, ◌^◌, List, [], ◌∷◌, ◌++◌, length, codes, decimal}
use Rattle.tab_drive.specs.declared.schedule.Scheduled.{Scheduled}
use Rattle.tab_drive.specs.declared.schedule.Scheduled.TheVariants.{Now, Call}
use Rattle.tab_drive.specs.declared.lines.TheConstants.{LONGEST_MESSAGE}

-- the byte that ends a line
abbrev pub line_feed : ℕ
line_feed = 10

-- the bytes of an event
unfoldable pub spelling : Scheduled → List ℕ
spelling (Now moment) = codes "now " ++ decimal moment ++ line_feed ∷ []
spelling (Call message) = codes "call " ++ decimal (length message) ++ line_feed ∷ (message ++ line_feed ∷ [])

-- the event's numbers are within their limits
abbrev pub Fits : Scheduled → Type 0
Fits (Now moment) = moment < 2 ^ 64
Fits (Call message) = length message ≤ LONGEST_MESSAGE

-- the line that ends a schedule
unfoldable pub end_line : List ℕ
end_line = codes "end\n"

-- neither an event's spelling nor the last line is at the front of the bytes
pub record IsNoEvent (bytes : List ℕ) : Type 0 where
  pub no_event : (event : Scheduled) (rest : List ℕ) → Fits event → bytes ≡ spelling event ++ rest → ⊥
  pub no_end : (rest : List ℕ) → bytes ≡ end_line ++ rest → ⊥
