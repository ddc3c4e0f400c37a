-- What a run of a schedule reads, writes and leaves as its history, by how it stops.
use Rattle.std.specs.Prelude.{◌≡◌, ℕ, ◌<◌, ◌≤◌, ◌⊎◌, List, [], ◌∷◌, ◌++◌, length, take, codes, decimal, Option}
use Rattle.std.specs.Io.KnownBytes.{Consumes, Appends}
use Rattle.tab_outside.specs.Faults.{Rose}
use Rattle.tab_outside.specs.Transfers.{TookFront}
use Rattle.tab_auth.specs.declared.signatures.Keys.{Keys}
use Rattle.tab_history.specs.Legality.{EachAllowed}
use Rattle.tab_history.specs.declared.entries.Entry.{Entry}
use Rattle.tab_drive.specs.Schedule.{spelling, Fits, end_line, IsNoEvent}
use Rattle.tab_drive.specs.Reading.{IfTold, IsWithinOne}
use Rattle.tab_drive.specs.RunStates.{RunState, Exchange, opened_state, opening, last_number, Happens, Follows, state_after, state_after_all, bytes_of, entries_of, text_of, IsRefused}
use Rattle.tab_drive.specs.Sessions.{Keeps}
use Rattle.tab_drive.specs.declared.schedule.Scheduled.{Scheduled}
use Rattle.tab_drive.specs.declared.session.Session.{Session}
use Rattle.tab_drive.specs.declared.serving.RunStop.{RunStop}
use Rattle.tab_drive.specs.declared.serving.RunStop.TheVariants.{End, Refused, ReadFault, WriteFault, Memory}

-- what a source had and has left, and what a sink had and has taken
pub record Traffic : Type 0 where
  pub left_before : Option (List ℕ)
  pub left : Option (List ℕ)
  pub taken_before : Option (List ℕ)
  pub taken : Option (List ℕ)

-- the same of these four
abbrev pub traffic : Option (List ℕ) → Option (List ℕ) → Option (List ℕ) → Option (List ℕ) → Traffic
traffic left_before left taken_before taken = record { left_before = left_before; left = left; taken_before = taken_before; taken = taken }

-- ---- one event

-- the exchange happened in this state
pub record Exchanged (keys : Keys) (state : RunState) (exchange : Exchange) (old new : Session) : Type 0 where
  pub fits : Fits exchange.event
  pub numbered : state.number < last_number
  pub happens : Happens keys state exchange.event exchange.entries exchange.text
  pub allowed : EachAllowed state.past exchange.entries
  pub keeps : Keeps new (state_after state exchange.event exchange.entries)
  pub history : new.history ≡ old.history ++ exchange.entries

-- an event was read, taken and answered, and its text was written whole
pub record EventServed (keys : Keys) (state : RunState) (traffic : Traffic) (old new : Session) : Type 0 where
  pub exchange : Exchange
  pub exchanged : Exchanged keys state exchange old new
  pub read : Consumes traffic.left_before traffic.left (spelling exchange.event)
  pub written : Appends traffic.taken_before traffic.taken exchange.text

-- its text was not written whole
pub record EventServedShort (keys : Keys) (state : RunState) (traffic : Traffic) (old new : Session) : Type 0 where
  pub exchange : Exchange
  pub exchanged : Exchanged keys state exchange old new
  pub read : Consumes traffic.left_before traffic.left (spelling exchange.event)
  pub written : TookFront traffic.taken_before traffic.taken exchange.text

-- bytes were taken from the source, and nothing else happened
pub record NoneServed (P : List ℕ → Type 0) (traffic : Traffic) (old new : Session) : Type 0 where
  pub part : List ℕ
  pub are : P part
  pub read : Consumes traffic.left_before traffic.left part
  pub written : traffic.taken ≡ traffic.taken_before
  pub history : new.history ≡ old.history

-- less than a whole event was taken, and no more than one line or one message with what calls it
abbrev pub IsCutShort : List ℕ → Type 0
IsCutShort bytes = IsNoEvent bytes × IsWithinOne bytes

-- at most one event, or less than a whole one
abbrev pub IsOneAtMost : List ℕ → Type 0
IsOneAtMost bytes = ((event : Scheduled) × Fits event × (bytes ≡ spelling event)) ⊎ IsCutShort bytes

-- how serving one event stopped the run
abbrev pub StopsServing : Keys → RunState → Traffic → Session → Session → RunStop → Type 0
StopsServing keys state traffic old new End = NoneServed (λ part. part ≡ end_line) traffic old new
StopsServing keys state traffic old new Refused = IfTold traffic.left_before (IsRefused state) × NoneServed IsOneAtMost traffic old new
StopsServing keys state traffic old new ReadFault = NoneServed IsCutShort traffic old new
StopsServing keys state traffic old new WriteFault = EventServedShort keys state traffic old new
StopsServing keys state traffic old new Memory = NoneServed IsOneAtMost traffic old new

-- ---- a whole schedule

-- the exchanges follow one another from the opened state on, and the history is the opening's entry and theirs
pub record Ran (keys : Keys) (moment : ℕ) (history : List Entry) (exchanges : List Exchange) : Type 0 where
  pub follows : Follows keys (opened_state moment) exchanges
  pub acted : history ≡ opening ∷ entries_of exchanges

-- the schedule was read up to its last line, and all of its texts were written
pub record Finished (keys : Keys) (moment : ℕ) (traffic : Traffic) (history : List Entry) (done : ℕ) : Type 0 where
  pub exchanges : List Exchange
  pub ran : Ran keys moment history exchanges
  pub read : Consumes traffic.left_before traffic.left (bytes_of exchanges ++ end_line)
  pub written : Appends traffic.taken_before traffic.taken (text_of exchanges)
  pub counted : done ≡ length exchanges

-- the event behind these exchanges is refused, and nothing was taken from the source behind it
pub record RefusedNext (keys : Keys) (moment : ℕ) (traffic : Traffic) (history : List Entry) (done : ℕ) : Type 0 where
  pub exchanges : List Exchange
  pub ran : Ran keys moment history exchanges
  pub behind : Option (List ℕ)
  pub read : Consumes traffic.left_before behind (bytes_of exchanges)
  pub refused : IfTold behind (IsRefused (state_after_all (opened_state moment) exchanges))
  pub part : List ℕ
  pub within : IsOneAtMost part
  pub further : Consumes behind traffic.left part
  pub written : Appends traffic.taken_before traffic.taken (text_of exchanges)
  pub counted : done ≡ length exchanges

-- behind these exchanges bytes were taken from the source that made no further exchange
pub record LeftOff (P : List ℕ → Type 0) (keys : Keys) (moment : ℕ) (traffic : Traffic) (history : List Entry) (done : ℕ) : Type 0 where
  pub exchanges : List Exchange
  pub ran : Ran keys moment history exchanges
  pub part : List ℕ
  pub are : P part
  pub read : Consumes traffic.left_before traffic.left (bytes_of exchanges ++ part)
  pub written : Appends traffic.taken_before traffic.taken (text_of exchanges)
  pub counted : done ≡ length exchanges

-- the sink failed before it had the last exchange's text whole
pub record Unwritten (keys : Keys) (moment : ℕ) (traffic : Traffic) (history : List Entry) (done : ℕ) : Type 0 where
  pub exchanges : List Exchange
  pub last : Exchange
  pub ran : Ran keys moment history (exchanges ++ last ∷ [])
  pub read : Consumes traffic.left_before traffic.left (bytes_of (exchanges ++ last ∷ []))
  pub count : ℕ
  pub short : count < length last.text
  pub written : Appends traffic.taken_before traffic.taken (text_of exchanges ++ take count last.text)
  pub counted : done ≡ length exchanges

-- how a schedule stopped
abbrev pub Stops : Keys → ℕ → Traffic → List Entry → ℕ → RunStop → Type 0
Stops keys moment traffic history done End = Finished keys moment traffic history done
Stops keys moment traffic history done Refused = RefusedNext keys moment traffic history done
Stops keys moment traffic history done ReadFault = LeftOff IsCutShort keys moment traffic history done
Stops keys moment traffic history done WriteFault = Unwritten keys moment traffic history done
Stops keys moment traffic history done Memory = LeftOff IsOneAtMost keys moment traffic history done

-- ---- the last line

abbrev pub usage_line : List ℕ
usage_line = codes "usage: init / drive ACCOUNT KEY / load ACCOUNT COUNT / show\n"

abbrev pub refused_line : ℕ → List ℕ
refused_line number = codes "event " ++ decimal number ++ codes " refused\n"

abbrev pub read_fault_line : List ℕ
read_fault_line = codes "read fault\n"

abbrev pub memory_line : List ℕ
memory_line = codes "out of memory\n"

-- the sink took the line, or, where its count of faults rose, a front of it
pub record TookLine (before after : Option (List ℕ)) (faults_before faults : ℕ) (line : List ℕ) : Type 0 where
  pub count : ℕ
  pub within : count ≤ length line
  pub whole : count < length line → Rose faults_before faults
  pub written : Appends before after (take count line)
