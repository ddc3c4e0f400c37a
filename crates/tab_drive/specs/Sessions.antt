-- What a session keeps of a run's state, the entries of a decided request, and what one step does.
use Rattle.std.specs.Prelude.{◌≡◌, ℕ, ◌+◌, List, [], ◌∷◌, ◌++◌, true, false, Option, Some, None, option_map, Ok, Err}
use Rattle.tab_keys.specs.declared.bounds.Bound.TheVariants.{At}
use Rattle.tab_auth.specs.declared.signatures.Keys.{Keys}
use Rattle.tab_page.specs.declared.pages.Options.{Options}
use Rattle.tab_ops.specs.Groups.{ItemView}
use Rattle.tab_history.specs.World.{Named, table_of, IsNextTick}
use Rattle.tab_history.specs.Legality.{EachAllowed}
use Rattle.tab_history.specs.declared.entries.Entry.{Entry}
use Rattle.tab_history.specs.declared.entries.Entry.TheVariants as entry
use Rattle.tab_history.specs.declared.entries.Denied.TheVariants as denied
use Rattle.tab_history.specs.declared.asks.Ask.{Ask}
use Rattle.tab_history.specs.declared.asks.Ask.TheVariants as ask
use Rattle.tab_history.specs.declared.asks.Reply.{Reply}
use Rattle.tab_history.specs.declared.asks.Reply.TheVariants as reply
use Rattle.tab_service.specs.declared.forms.Request.{Request}
use Rattle.tab_service.specs.Replies.{reply_text}
use Rattle.tab_drive.specs.RunStates.{RunState, name_of, Happens, reply_outcome, state_after}
use Rattle.tab_drive.specs.Stores.{Held, held_by, held_then, IsDecided}
use Rattle.tab_drive.specs.declared.look_ups.LookUp.{LookUp}
use Rattle.tab_drive.specs.declared.schedule.Scheduled.{Scheduled}
use Rattle.tab_drive.specs.declared.session.Session.{Session}
use Rattle.tab_drive.specs.declared.stores.StoreAnswer.{StoreAnswer}

-- what the state says that the store holds
abbrev pub held_in : RunState → Held
held_in state = record {
  names = state.past.world.names;
  next_table = state.past.world.next_table;
  rows = state.past.world.rows;
  next_tick = state.next_tick;
}

-- the state's store has one number for all floors, and one range
pub record IsServing (state : RunState) : Type 0 where
  pub floors : IsNextTick state.past.world.floors state.next_tick
  pub bounds : state.past.bounds ≡ At 0 [] ∷ []
  pub settled : state.past.doubts ≡ []

-- the session is in this state
pub record Keeps (session : Session) (state : RunState) : Type 0 where
  pub moment : session.moment ≡ state.moment
  pub number : session.number ≡ state.number
  pub held : held_by session.store ≡ held_in state
  pub serving : IsServing state

-- ---- the entries of a decided request

-- the look-up of the table whose rows a request is about
abbrev pub look_up : List Named → Ask → Option LookUp
look_up names what = option_map (λ name. record { name = name; table = table_of names name }) (name_of what)

-- the entry of a table's creation, with the number that is next
abbrev pub create_entry : ℕ → ℕ → List ℕ → Reply → Entry
create_entry number next_table name (reply.Made spelled) = entry.Create number name (Some next_table)
create_entry number next_table name (reply.Denied denied.TableThere) = entry.Create number name None
create_entry number next_table name (reply.Denied denied.IdsSpent) = entry.Denied number denied.IdsSpent
create_entry number next_table name _ = entry.Denied number denied.Memory

abbrev pub drop_entry : ℕ → List ℕ → Reply → Entry
drop_entry number name reply.Dropped = entry.Drop number name true
drop_entry number name (reply.Denied denied.NoTable) = entry.Drop number name false
drop_entry number name _ = entry.Denied number denied.Memory

abbrev pub list_entry : ℕ → Option (List ℕ) → ℕ → Reply → Entry
list_entry number after top (reply.Tables names next) = entry.List number after top names next
list_entry number after top _ = entry.Denied number denied.Memory

abbrev pub get_entry : ℕ → ℕ → List ℕ → List ℕ → Reply → Entry
get_entry number table pk rk (reply.Found row) = entry.Get number table pk rk (Some row)
get_entry number table pk rk (reply.Denied denied.NotFound) = entry.Get number table pk rk None
get_entry number table pk rk _ = entry.Denied number denied.Memory

abbrev pub page_entry : ℕ → ℕ → Options → Reply → Entry
page_entry number table options (reply.Listed page) = entry.Page number table options page
page_entry number table options _ = entry.Denied number denied.Memory

abbrev pub change_entry : ℕ → ℕ → ℕ → List ItemView → Reply → Entry
change_entry number moment table group (reply.Changed tick) = entry.Change number moment table group (Ok tick)
change_entry number moment table group (reply.Denied (denied.Op refusal)) = entry.Change number moment table group (Err refusal)
change_entry number moment table group (reply.Denied denied.TimeSpent) = entry.Denied number denied.TimeSpent
change_entry number moment table group _ = entry.Denied number denied.Memory

-- the entry of the answer to a command on tables
abbrev pub table_entry : ℕ → ℕ → Ask → Reply → Entry
table_entry number next_table (ask.Create name) reply = create_entry number next_table name reply
table_entry number next_table (ask.Drop name) reply = drop_entry number name reply
table_entry number next_table (ask.Tables after top) reply = list_entry number after top reply
table_entry number next_table _ reply = entry.Denied number denied.Memory

-- the entry of the answer to a request about the rows of a table
abbrev pub row_entry : ℕ → ℕ → ℕ → Ask → Reply → Entry
row_entry number moment table (ask.Get name pk rk) reply = get_entry number table pk rk reply
row_entry number moment table (ask.Page name options) reply = page_entry number table options reply
row_entry number moment table (ask.Change group) reply = change_entry number moment table group reply
row_entry number moment table _ reply = entry.Denied number denied.Memory

-- the entry behind a look-up; none where it found no table
abbrev pub behind_look_up : ℕ → ℕ → Option ℕ → Ask → Reply → List Entry
behind_look_up number moment None what reply = []
behind_look_up number moment (Some table) what reply = row_entry number moment table what reply ∷ []

abbrev pub entries_by : Option LookUp → ℕ → ℕ → ℕ → Ask → Reply → List Entry
entries_by None number moment next_table what reply = table_entry number next_table what reply ∷ []
entries_by (Some look) number moment next_table what reply = entry.Resolve number look.name look.table ∷ behind_look_up number moment look.table what reply

-- the entries of a request over what the store held
abbrev pub entries_for : ℕ → ℕ → Held → Ask → Reply → List Entry
entries_for number moment held what reply = entries_by (look_up held.names what) number moment held.next_table what reply

-- ---- steps

-- the event happened: the history has its entries, of which each is allowed, and the session is in the state after it
pub record Stepped (keys : Keys) (state : RunState) (event : Scheduled) (text : List ℕ) (old new : Session) : Type 0 where
  pub entries : List Entry
  pub happens : Happens keys state event entries text
  pub allowed : EachAllowed state.past entries
  pub keeps : Keeps new (state_after state event entries)
  pub history : new.history ≡ old.history ++ entries

-- a request was answered with this text, and the history has its entries
pub record Replied (old new : Session) (request : Request) (text : List ℕ) : Type 0 where
  pub decided : StoreAnswer
  pub comes : IsDecided (held_by old.store) old.moment request.ask decided
  pub written : text ≡ reply_outcome (reply_text request decided.reply)
  pub history : new.history ≡ old.history ++ entries_for old.number old.moment (held_by old.store) request.ask decided.reply
  pub held : held_by new.store ≡ held_then (held_by old.store) decided.effect
  pub number : new.number ≡ old.number + 1
  pub moment : new.moment ≡ old.moment

-- nothing changed but the room for more rows
pub record Unchanged (old new : Session) : Type 0 where
  pub history : new.history ≡ old.history
  pub held : held_by new.store ≡ held_by old.store
  pub number : new.number ≡ old.number
  pub moment : new.moment ≡ old.moment

-- a message was refused, and nothing changed but the number of the next event
pub record RefusedAt (old new : Session) : Type 0 where
  pub history : new.history ≡ old.history
  pub held : held_by new.store ≡ held_by old.store
  pub number : new.number ≡ old.number + 1
  pub moment : new.moment ≡ old.moment
