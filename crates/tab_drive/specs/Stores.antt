-- What a store in memory holds, what a request comes to over it, and what it holds then.
use Rattle.std.specs.Prelude.{◌≡◌, ℕ, ◌+◌, ◌<◌, ◌≤◌, ◌⊎◌, max, List, length, take, slice_get, true, false, Option, Some, None, is_some, option_and_then, Ok, Err, ⊤}
use Rattle.tab_keys.specs.declared.keys.Key.{Key}
use Rattle.tab_keys.specs.declared.bounds.Bound.TheVariants.{End}
use Rattle.tab_edm.specs.declared.TheConstants.{GREATEST}
use Rattle.tab_rows.specs.Rows.{RowView, row_at}
use Rattle.tab_page.specs.Pages.{page_below}
use Rattle.tab_page.specs.declared.pages.Options.{Options}
use Rattle.tab_ops.specs.Groups.{ItemView, IsGroup}
use Rattle.tab_ops.specs.Changes.{group_outcome, applied, IsTimely}
use Rattle.tab_ops.specs.declared.groups.OpRefused.{OpRefused}
use Rattle.tab_ops.specs.declared.plans.Changes.{Changes}
use Rattle.tab_history.specs.World.{Named, table_of, with_name, without_name, names_from}
use Rattle.tab_history.specs.declared.entries.Denied.{Denied}
use Rattle.tab_history.specs.declared.entries.Denied.TheVariants as denied
use Rattle.tab_history.specs.declared.asks.Ask.{Ask}
use Rattle.tab_history.specs.declared.asks.Ask.TheVariants as ask
use Rattle.tab_history.specs.declared.asks.Reply.{Reply}
use Rattle.tab_history.specs.declared.asks.Reply.TheVariants as reply
use Rattle.tab_drive.specs.RunStates.{name_of, last_number}
use Rattle.tab_drive.specs.declared.stores.StoreAnswer.{StoreAnswer}
use Rattle.tab_drive.specs.declared.stores.Effect.{Effect}
use Rattle.tab_drive.specs.declared.stores.Effect.TheVariants as effect
use Rattle.tab_drive.specs.declared.stores.Store.{Store}

-- what a store holds: its tables and the next one's number, its rows, and the least tick of the next change
pub record Held : Type 0 where
  pub names : List Named
  pub next_table : ℕ
  pub rows : List RowView
  pub next_tick : ℕ

abbrev pub held_by : Store → Held
held_by store = record { names = store.tables.names; next_table = store.next_table; rows = store.rows.rows; next_tick = store.next_tick }

-- the table whose rows a request is about, if it is there
abbrev pub table_for : List Named → Ask → Option ℕ
table_for names what = option_and_then (table_of names) (name_of what)

-- ---- what a request comes to

-- a denial, which changes nothing
abbrev pub denial : Denied → StoreAnswer
denial why = record { reply = reply.Denied why; effect = effect.Nothing }

-- it is answered, and changes nothing
abbrev pub answered : Reply → StoreAnswer
answered reply = record { reply = reply; effect = effect.Nothing }

-- no memory was found
abbrev pub Lacks : StoreAnswer → Type 0
Lacks decided = decided ≡ denial denied.Memory

-- a table is made
pub record Creates (held : Held) (name : List ℕ) (decided : StoreAnswer) : Type 0 where
  pub absent : table_of held.names name ≡ None
  pub numbered : held.next_table < last_number
  pub is : decided ≡ record { reply = reply.Made name; effect = effect.Create name }

-- or there is one of the name
pub record FindsTable (held : Held) (name : List ℕ) (decided : StoreAnswer) : Type 0 where
  pub there : is_some (table_of held.names name) ≡ true
  pub is : decided ≡ denial denied.TableThere

-- or no number is left for it
pub record LacksNumber (held : Held) (name : List ℕ) (decided : StoreAnswer) : Type 0 where
  pub absent : table_of held.names name ≡ None
  pub spent : last_number ≤ held.next_table
  pub is : decided ≡ denial denied.IdsSpent

-- a table is dropped
pub record Drops (held : Held) (name : List ℕ) (decided : StoreAnswer) : Type 0 where
  pub there : is_some (table_of held.names name) ≡ true
  pub is : decided ≡ record { reply = reply.Dropped; effect = effect.Drop name }

-- or there is none of the name
pub record FindsNone (held : Held) (name : List ℕ) (decided : StoreAnswer) : Type 0 where
  pub absent : is_some (table_of held.names name) ≡ false
  pub is : decided ≡ denial denied.NoTable

-- the names of tables from one on
abbrev pub Names : Held → Option (List ℕ) → ℕ → StoreAnswer → Type 0
Names held after top decided = decided ≡ answered (reply.Tables (take top (names_from held.names after)) (slice_get (names_from held.names after) top))

-- the reply to a point read
abbrev pub found_or_not : Option RowView → Reply
found_or_not (Some row) = reply.Found row
found_or_not None = reply.Denied denied.NotFound

-- the row at a key, or that there is none
abbrev pub Gets : Held → Key → StoreAnswer → Type 0
Gets held key decided = decided ≡ answered (found_or_not (row_at held.rows key))

-- the page up to the end of all keys
abbrev pub Pages : Held → ℕ → Options → StoreAnswer → Type 0
Pages held table options decided = decided ≡ answered (reply.Listed (page_below held.rows table options End))

-- the tick that the next change has at a moment
abbrev pub tick_at : Held → ℕ → ℕ
tick_at held moment = max moment held.next_tick

-- the group stands
pub record Makes (held : Held) (moment table : ℕ) (group : List ItemView) (decided : StoreAnswer) : Type 0 where
  pub is_group : IsGroup group
  pub made : Changes
  pub is : decided ≡ record { reply = reply.Changed (tick_at held moment); effect = effect.Change made }
  pub tick_is : made.tick ≡ tick_at held moment
  pub in_time : tick_at held moment ≤ GREATEST
  pub outcome : group_outcome held.rows table (tick_at held moment) group ≡ Ok (applied held.rows made.list)

-- the group is refused
pub record IsRefusedGroup (held : Held) (moment table : ℕ) (group : List ItemView) (decided : StoreAnswer) : Type 0 where
  pub is_group : IsGroup group
  pub refusal : OpRefused
  pub is : decided ≡ denial (denied.Op refusal)
  pub in_time : tick_at held moment ≤ GREATEST
  pub timely : IsTimely refusal
  pub outcome : group_outcome held.rows table (tick_at held moment) group ≡ Err refusal

-- no moment is left for the tick
pub record LacksMoment (held : Held) (moment : ℕ) (decided : StoreAnswer) : Type 0 where
  pub spent : GREATEST < tick_at held moment
  pub is : decided ≡ denial denied.TimeSpent

-- what is said of a table where it is there; where it is not, that is said
abbrev pub OnTable : Option ℕ → (ℕ → Type 0) → StoreAnswer → Type 0
OnTable None P decided = decided ≡ denial denied.NoTable
OnTable (Some table) P decided = P table

abbrev pub IsDecided : Held → ℕ → Ask → StoreAnswer → Type 0
IsDecided held moment (ask.Create name) decided = Creates held name decided ⊎ (FindsTable held name decided ⊎ (LacksNumber held name decided ⊎ Lacks decided))
IsDecided held moment (ask.Drop name) decided = Drops held name decided ⊎ (FindsNone held name decided ⊎ Lacks decided)
IsDecided held moment (ask.Tables after top) decided = Names held after top decided ⊎ Lacks decided
IsDecided held moment (ask.Get name pk rk) decided =
    OnTable (table_of held.names name) (λ table. Gets held (record { table = table; pk = pk; rk = rk }) decided ⊎ Lacks decided) decided
IsDecided held moment (ask.Page name options) decided =
    OnTable (table_of held.names name) (λ table. Pages held table options decided ⊎ Lacks decided) decided
IsDecided held moment (ask.Change group) decided =
    OnTable (table_for held.names (ask.Change group))
    (λ table. Makes held moment table group decided ⊎ (IsRefusedGroup held moment table group decided ⊎ (LacksMoment held moment decided ⊎ Lacks decided)))
    decided

-- memory may be wanted for a request: for a command on tables, or where the table is there
abbrev pub MayLack : Ask → Option ℕ → Type 0
MayLack (ask.Create name) table = ⊤
MayLack (ask.Drop name) table = ⊤
MayLack (ask.Tables after top) table = ⊤
MayLack _ None = ⊥
MayLack _ (Some table) = ⊤

-- ---- what the store holds then

abbrev pub held_then : Held → Effect → Held
held_then held effect.Nothing = held
held_then held (effect.Change changes) = record held { rows = applied held.rows changes.list; next_tick = changes.tick + 1 }
held_then held (effect.Create name) = record held { names = with_name held.names (record { spelling = name; table = held.next_table }); next_table = held.next_table + 1 }
held_then held (effect.Drop name) = record held { names = without_name held.names name }

-- the store has what the effect takes
abbrev pub HasRoom : Store → Effect → Type 0
HasRoom store effect.Nothing = ⊤
HasRoom store (effect.Change changes) = (length changes.list ≤ store.rows.spare) × (changes.tick ≤ GREATEST)
HasRoom store (effect.Create name) = (1 ≤ store.tables.spare) × (table_of store.tables.names name ≡ None) × (store.next_table < last_number)
HasRoom store (effect.Drop name) = ⊤
