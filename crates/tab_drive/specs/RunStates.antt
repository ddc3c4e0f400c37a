-- The states of a run of a schedule, and what each event takes from the history and gives as text.
use Rattle.std.specs.Prelude.{◌≡◌, ℕ, ◌+◌, ◌-◌, ◌^◌, ◌<◌, ◌≤◌, ◌⊎◌, max, List, [], ◌∷◌, ◌++◌, length, codes, decimal, true, false, Option, Some, None, Result, Ok, Err, ⊤}
use Rattle.std.specs.List.{flat_map}
use Rattle.tab_keys.specs.declared.bounds.Bound.TheVariants.{At}
use Rattle.tab_edm.specs.declared.TheConstants.{GREATEST}
use Rattle.tab_auth.specs.declared.signatures.Keys.{Keys}
use Rattle.tab_ops.specs.Groups.{ItemView}
use Rattle.tab_ops.specs.declared.groups.OpRefused.{OpRefused}
use Rattle.tab_history.specs.World.{table_of}
use Rattle.tab_history.specs.Legality.{State, accepted, after_all}
use Rattle.tab_history.specs.declared.entries.Entry.{Entry}
use Rattle.tab_history.specs.declared.entries.Entry.TheVariants as entry
use Rattle.tab_history.specs.declared.entries.Denied.{Denied}
use Rattle.tab_history.specs.declared.entries.Denied.TheVariants as denied
use Rattle.tab_history.specs.declared.entries.Doubt.{Doubt}
use Rattle.tab_history.specs.declared.entries.Doubt.TheVariants as doubt
use Rattle.tab_history.specs.declared.asks.Ask.{Ask}
use Rattle.tab_history.specs.declared.asks.Ask.TheVariants as ask
use Rattle.tab_history.specs.declared.asks.Reply.{Reply}
use Rattle.tab_history.specs.declared.asks.Reply.TheVariants as reply
use Rattle.tab_core.specs.Courses.{first_state}
use Rattle.tab_service.specs.declared.forms.Request.{Request}
use Rattle.tab_service.specs.declared.requests.decide.Decided.TheVariants.{Go, No}
use Rattle.tab_service.specs.Replies.{reply_text}
use Rattle.tab_drive.specs.Schedule.{line_feed, spelling, Fits, IsNoEvent, end_line}
use Rattle.tab_drive.specs.Messages.{ComeTo}
use Rattle.tab_drive.specs.declared.schedule.Scheduled.{Scheduled}
use Rattle.tab_drive.specs.declared.schedule.Scheduled.TheVariants.{Now, Call}

-- where a run stands: the moment, the next event's number, the least tick that the next change may have, and what
-- the history has come to
pub record RunState : Type 0 where
  pub moment : ℕ
  pub number : ℕ
  pub next_tick : ℕ
  pub past : State

-- one event with the entries that it takes and the text that it gives
pub record Exchange : Type 0 where
  pub event : Scheduled
  pub entries : List Entry
  pub text : List ℕ

-- what an opening adds to the history: the bound of the one range
abbrev pub opening : Entry
opening = entry.Bounds (At 0 [] ∷ [])

-- where a run begins: behind the opening
unfoldable pub opened_state : ℕ → RunState
opened_state moment = record { moment = moment; number = 1; next_tick = 0; past = after_all first_state (opening ∷ []) }

-- the least tick of the next change, after one entry and after several
abbrev pub tick_after : ℕ → Option Doubt → ℕ
tick_after next None = next
tick_after next (Some (doubt.Change table group tick)) = tick + 1
tick_after next (Some (doubt.Create name table)) = next
tick_after next (Some (doubt.Drop name)) = next

abbrev pub next_tick_after : ℕ → List Entry → ℕ
next_tick_after next [] = next
next_tick_after next (entry ∷ entries) = next_tick_after (tick_after next (accepted [] entry)) entries

abbrev pub moment_after : ℕ → Scheduled → ℕ
moment_after moment (Now later) = later
moment_after moment (Call message) = moment

-- the state after an event that took these entries
unfoldable pub state_after : RunState → Scheduled → List Entry → RunState
state_after state event entries = record {
  moment = moment_after state.moment event;
  number = state.number + 1;
  next_tick = next_tick_after state.next_tick entries;
  past = after_all state.past entries;
}

-- ---- requests

-- the name of the first item's table
abbrev pub group_name : List ItemView → List ℕ
group_name [] = []
group_name (item ∷ items) = item.name

-- the name of the table whose rows a request is about; none for a command on tables
abbrev pub name_of : Ask → Option (List ℕ)
name_of (ask.Create name) = None
name_of (ask.Drop name) = None
name_of (ask.Tables after top) = None
name_of (ask.Get name pk rk) = Some name
name_of (ask.Page name options) = Some name
name_of (ask.Change group) = Some (group_name group)

-- the last number of 64 bits, which no event and no table gets
abbrev pub last_number : ℕ
last_number = 2 ^ 64 - 1

-- the tick of a change that stands: that of the moment, or the next one where that is later
abbrev pub HasTick : RunState → Result ℕ OpRefused → Type 0
HasTick state (Ok tick) = tick ≡ max state.moment state.next_tick
HasTick state (Err refusal) = ⊤

-- a number is left for a table that is made
abbrev pub HasNumber : RunState → Option ℕ → Type 0
HasNumber state (Some table) = state.past.world.next_table < last_number
HasNumber state None = ⊤

-- no moment is left for the tick of the change that is asked for
abbrev pub IsTimeSpent : RunState → Ask → Type 0
IsTimeSpent state (ask.Change group) = GREATEST < max state.moment state.next_tick
IsTimeSpent state _ = ⊥

-- no number is left for the table that is to be made, and none has its name
abbrev pub AreNumbersSpent : RunState → Ask → Type 0
AreNumbersSpent state (ask.Create name) = (table_of state.past.world.names name ≡ None) × (last_number ≤ state.past.world.next_table)
AreNumbersSpent state _ = ⊥

-- the reasons for which a request may be denied whatever the world is
abbrev pub MayDeny : RunState → Ask → Denied → Type 0
MayDeny state what denied.TimeSpent = IsTimeSpent state what
MayDeny state what denied.IdsSpent = AreNumbersSpent state what
MayDeny state what denied.Memory = ⊤
MayDeny state what _ = ⊥

-- The entry answers the request, which has the number of the state. A request about the rows of a table that is not there is
-- answered by its look-up. A change is answered only where a moment is left for its tick.
abbrev pub IsAnswer : RunState → Ask → Entry → Type 0
IsAnswer state (ask.Create name) (entry.Create ask made table) = (ask ≡ state.number) × (made ≡ name) × HasNumber state table
IsAnswer state (ask.Drop name) (entry.Drop ask dropped stood) = (ask ≡ state.number) × (dropped ≡ name)
IsAnswer state (ask.Tables after top) (entry.List ask from most names next) = (ask ≡ state.number) × (from ≡ after) × (most ≡ top)
IsAnswer state (ask.Get name pk rk) (entry.Get ask table p r found) = (ask ≡ state.number) × (p ≡ pk) × (r ≡ rk)
IsAnswer state (ask.Page name options) (entry.Page ask table asked page) = (ask ≡ state.number) × (asked ≡ options)
IsAnswer state (ask.Change group) (entry.Change ask now table acted result) =
    (ask ≡ state.number) × (now ≡ state.moment) × (acted ≡ group) × (max state.moment state.next_tick ≤ GREATEST) × HasTick state result
IsAnswer state what (entry.Resolve ask name None) = (ask ≡ state.number) × (name_of what ≡ Some name)
IsAnswer state what (entry.Denied ask why) = (ask ≡ state.number) × MayDeny state what why
IsAnswer state what entry = ⊥

-- the reply that an entry stands for
abbrev pub reply_of : Entry → Option Reply
reply_of (entry.Resolve ask name None) = Some (reply.Denied denied.NoTable)
reply_of (entry.Get ask table pk rk (Some row)) = Some (reply.Found row)
reply_of (entry.Get ask table pk rk None) = Some (reply.Denied denied.NotFound)
reply_of (entry.Page ask table options page) = Some (reply.Listed page)
reply_of (entry.Change ask now table group (Ok tick)) = Some (reply.Changed tick)
reply_of (entry.Change ask now table group (Err refusal)) = Some (reply.Denied (denied.Op refusal))
reply_of (entry.Create ask name (Some table)) = Some (reply.Made name)
reply_of (entry.Create ask name None) = Some (reply.Denied denied.TableThere)
reply_of (entry.Drop ask name true) = Some reply.Dropped
reply_of (entry.Drop ask name false) = Some (reply.Denied denied.NoTable)
reply_of (entry.List ask from top names next) = Some (reply.Tables names next)
reply_of (entry.Denied ask why) = Some (reply.Denied why)
reply_of _ = None

-- an answer with no look-up before it: to a command on tables, that a look-up found no table, or that no memory was found
abbrev pub StandsAlone : Entry → Type 0
StandsAlone (entry.Resolve ask name None) = ⊤
StandsAlone (entry.Create ask name table) = ⊤
StandsAlone (entry.Drop ask name stood) = ⊤
StandsAlone (entry.List ask from top names next) = ⊤
StandsAlone (entry.Denied ask denied.IdsSpent) = ⊤
StandsAlone (entry.Denied ask denied.Memory) = ⊤
StandsAlone _ = ⊥

-- an answer behind a look-up that found the table
abbrev pub StandsBehind : Entry → Type 0
StandsBehind (entry.Get ask table pk rk found) = ⊤
StandsBehind (entry.Page ask table options page) = ⊤
StandsBehind (entry.Change ask now table group result) = ⊤
StandsBehind (entry.Denied ask denied.TimeSpent) = ⊤
StandsBehind (entry.Denied ask denied.Memory) = ⊤
StandsBehind _ = ⊥

-- a look-up that found the table, and the answer behind it
pub record LooksUp (state : RunState) (what : Ask) (answer : Entry) (entries : List Entry) : Type 0 where
  pub name : List ℕ
  pub named : name_of what ≡ Some name
  pub table : ℕ
  pub behind : StandsBehind answer
  pub entries_are : entries ≡ entry.Resolve state.number name (Some table) ∷ answer ∷ []

-- a request's entries: its look-up and its answer, or its answer alone
abbrev pub Takes : RunState → Ask → Entry → List Entry → Type 0
Takes state what answer entries = LooksUp state what answer entries ⊎ (StandsAlone answer × (entries ≡ answer ∷ []))

-- the line of a reply's length, its bytes, and a line's end
unfoldable pub reply_outcome : List ℕ → List ℕ
reply_outcome bytes = codes "reply " ++ decimal (length bytes) ++ line_feed ∷ (bytes ++ line_feed ∷ [])

-- the line of an event that only sets something
unfoldable pub done_outcome : List ℕ
done_outcome = codes "ok\n"

-- a message asks something, and is answered and replied to
pub record Answers (keys : Keys) (state : RunState) (message : List ℕ) (entries : List Entry) (text : List ℕ) : Type 0 where
  pub request : Request
  pub comes : ComeTo keys state.moment message (Go request)
  pub answer : Entry
  pub answers : IsAnswer state request.ask answer
  pub takes : Takes state request.ask answer entries
  pub reply : Reply
  pub replies : reply_of answer ≡ Some reply
  pub written : text ≡ reply_outcome (reply_text request reply)

-- a message is refused before the store is asked, and takes no entry
pub record Refuses (keys : Keys) (state : RunState) (message : List ℕ) (entries : List Entry) (text : List ℕ) : Type 0 where
  pub reply : List ℕ
  pub comes : ComeTo keys state.moment message (No reply)
  pub none : entries ≡ []
  pub written : text ≡ reply_outcome reply

-- what may happen at an event: the entries that it takes and the text that it gives
abbrev pub Happens : Keys → RunState → Scheduled → List Entry → List ℕ → Type 0
Happens keys state (Now moment) entries text = (entries ≡ []) × (text ≡ done_outcome)
Happens keys state (Call message) entries text = Answers keys state message entries text ⊎ Refuses keys state message entries text

-- each exchange is what may happen in the state before it
abbrev pub Follows : Keys → RunState → List Exchange → Type 0
Follows keys state [] = ⊤
Follows keys state (exchange ∷ exchanges) =
    Fits exchange.event × (state.number < last_number)
    × Happens keys state exchange.event exchange.entries exchange.text
    × Follows keys (state_after state exchange.event exchange.entries) exchanges

-- the state after exchanges
abbrev pub state_after_all : RunState → List Exchange → RunState
state_after_all state [] = state
state_after_all state (exchange ∷ exchanges) = state_after_all (state_after state exchange.event exchange.entries) exchanges

-- the bytes read, the entries taken and the text given, one exchange after another
abbrev pub bytes_of : List Exchange → List ℕ
bytes_of exchanges = flat_map (λ exchange. spelling exchange.event) exchanges

abbrev pub entries_of : List Exchange → List Entry
entries_of exchanges = flat_map (λ exchange. exchange.entries) exchanges

abbrev pub text_of : List Exchange → List ℕ
text_of exchanges = flat_map (λ exchange. exchange.text) exchanges

-- the run goes on with no event of these bytes: none is spelled there, or numbers have run out
abbrev pub IsRefused : RunState → List ℕ → Type 0
IsRefused state bytes = IsNoEvent bytes ⊎ ((last_number ≤ state.number) × ((rest : List ℕ) → bytes ≡ end_line ++ rest → ⊥))
