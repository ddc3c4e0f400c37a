-- What an event gives to be written, and what a write left.
use Rattle.std.specs.Prelude.{ℕ, List, Option, Result, MatchResult}
use Rattle.std.specs.Io.KnownBytes.{Appends}
use Rattle.tab_outside.specs.Transfers.{TookFront}
use Rattle.tab_drive.specs.RunStates.{done_outcome, reply_outcome}
use Rattle.tab_drive.specs.declared.outgoing.Outgoing.{Outgoing}
use Rattle.tab_drive.specs.declared.outgoing.Outgoing.TheVariants.{Done, Reply, Fixed}

-- the text of what an event gives
abbrev pub outgoing_text : Outgoing → List ℕ
outgoing_text Done = done_outcome
outgoing_text (Reply bytes) = reply_outcome bytes
outgoing_text (Fixed bytes) = reply_outcome bytes.now

-- the sink took the whole text at Ok, and otherwise a front of it that is shorter
abbrev pub Wrote : {T E : Type 0} → Option (List ℕ) → Option (List ℕ) → Result T E → List ℕ → Type 0
Wrote old new result text = MatchResult result (λ _. Appends old new text) (λ _. TookFront old new text)
