-- What serving one event comes to.
use Rattle.std.proofs.Common.{◌≡◌, ℕ, ◌≤◌, ◌<◌, List, refl, inl, inr}
use Rattle.std.specs.Prelude.{Option}
use Rattle.std.specs.Io.KnownBytes.{Consumes, Appends}
use Rattle.tab_outside.specs.Transfers.{TookFront}
use Rattle.tab_auth.specs.declared.signatures.Keys.{Keys}
use Rattle.tab_drive.specs.Schedule.{spelling, Fits}
use Rattle.tab_drive.specs.Reading.{IfTold, TookPart}
use Rattle.tab_drive.specs.RunStates.{RunState, last_number, IsRefused}
use Rattle.tab_drive.specs.Sessions.{Stepped}
use Rattle.tab_drive.specs.Runs.{Traffic, Exchanged, EventServed, EventServedShort, NoneServed, IsOneAtMost}
use Rattle.tab_drive.specs.declared.schedule.Scheduled.{Scheduled}
use Rattle.tab_drive.specs.declared.session.Session.{Session}
use Rattle.tab_drive.proofs.Spellings.{event_not_end}
use Rattle.tab_drive.proofs.Told.{told_front}

exchanged : (keys : Keys) (state : RunState) (event : Scheduled) (text : List ℕ) (old new : Session) → Fits event → state.number < last_number → (stepped : Stepped keys state event text old new)
    → Exchanged keys state (record { event = event; entries = stepped.entries; text = text }) old new
exchanged keys state event text old new fits numbered stepped =
    record { fits = fits; numbered = numbered; happens = stepped.happens; allowed = stepped.allowed; keeps = stepped.keeps; history = stepped.history }

-- a step whose text was written whole
pub served : (keys : Keys) (state : RunState) (traffic : Traffic) (event : Scheduled) (text : List ℕ) (old new : Session) → Fits event → state.number < last_number
    → Stepped keys state event text old new → Consumes traffic.left_before traffic.left (spelling event) → Appends traffic.taken_before traffic.taken text → EventServed keys state traffic old new
served keys state traffic event text old new fits numbered stepped read written =
    record { exchange = record { event = event; entries = stepped.entries; text = text }; exchanged = exchanged keys state event text old new fits numbered stepped; read = read; written = written }

-- a step whose text was not
pub served_short : (keys : Keys) (state : RunState) (traffic : Traffic) (event : Scheduled) (text : List ℕ) (old new : Session) → Fits event → state.number < last_number
    → Stepped keys state event text old new → Consumes traffic.left_before traffic.left (spelling event) → TookFront traffic.taken_before traffic.taken text → EventServedShort keys state traffic old new
served_short keys state traffic event text old new fits numbered stepped read written =
    record { exchange = record { event = event; entries = stepped.entries; text = text }; exchanged = exchanged keys state event text old new fits numbered stepped; read = read; written = written }

-- no number is left for an event
refused_number : (state : RunState) (before left : Option (List ℕ)) (event : Scheduled) → Fits event → last_number ≤ state.number
    → Consumes before left (spelling event) → IfTold before (IsRefused state)
refused_number state before left event fits spent read =
    told_front before left (spelling event) (IsRefused state) read (λ rest. inr (spent, λ more is. event_not_end event rest more fits is))

-- a part was taken that holds no event
pub cut_short : (traffic : Traffic) (old new : Session) → TookPart traffic.left_before traffic.left → traffic.taken ≡ traffic.taken_before → new.history ≡ old.history
    → NoneServed IsOneAtMost traffic old new
cut_short traffic old new took written history =
    record { part = took.part; are = inr (took.no_event, took.within); read = took.consumed; written = written; history = history }

pub stopped_number : (state : RunState) (traffic : Traffic) (event : Scheduled) (session : Session) → Fits event → last_number ≤ state.number
    → Consumes traffic.left_before traffic.left (spelling event) → traffic.taken ≡ traffic.taken_before
    → IfTold traffic.left_before (IsRefused state) × NoneServed IsOneAtMost traffic session session
stopped_number state traffic event session fits spent read written = (
  refused_number state traffic.left_before traffic.left event fits spent read,
  record { part = spelling event; are = inl (event, fits, refl); read = read; written = written; history = refl },
)
