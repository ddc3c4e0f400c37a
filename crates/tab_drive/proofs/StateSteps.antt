-- What a decided request adds to a run's state.
use Rattle.std.proofs.Common.{◌≡◌, ℕ, ◌+◌, ◌≤◌, ◌<◌, max, get_or, ◌∙◌, List, [], ◌∷◌, length, refl, sym, ap, subst, arith, inl, inr, true, false}
use Rattle.std.specs.Prelude.{◌⊎◌, Option, Some, None, Ok, Err, is_some}
use Rattle.tab_keys.specs.declared.bounds.Bound.{Bound}
use Rattle.tab_keys.specs.declared.bounds.Bound.TheVariants.{At, End}
use Rattle.tab_edm.specs.declared.TheConstants.{GREATEST}
use Rattle.tab_rows.specs.Rows.{RowView, row_at}
use Rattle.tab_ops.specs.Groups.{ItemView, item_key, group_refusal, IsGroup}
use Rattle.tab_ops.specs.Changes.{group_outcome, group_keys, applied}
use Rattle.tab_ops.specs.declared.groups.OpRefused.{OpRefused}
use Rattle.tab_ops.specs.declared.plans.Changes.{Changes}
use Rattle.tab_ops.proofs.GroupLaws.{refused_at_any_tick}
use Rattle.tab_history.specs.World.{table_of, floor_of, raised, IsNextTick, MayHaveTick}
use Rattle.tab_history.specs.Doubts.{SparesKeys, SparesPage, SparesNames, EachDoubt}
use Rattle.tab_history.specs.Legality.{EachAllowed, after_all}
use Rattle.tab_history.specs.declared.entries.Entry.{Entry}
use Rattle.tab_history.specs.declared.entries.Entry.TheVariants as entry
use Rattle.tab_history.specs.declared.entries.Denied.TheVariants as denied
use Rattle.tab_history.specs.declared.entries.Doubt.{Doubt}
use Rattle.tab_history.specs.declared.asks.Ask.{Ask}
use Rattle.tab_history.specs.declared.asks.Ask.TheVariants as ask
use Rattle.tab_history.specs.declared.asks.Reply.TheVariants as reply
use Rattle.tab_history.proofs.DoubtLaws.{no_doubts}
use Rattle.tab_history.proofs.ChangeLaws.{may_have_next, next_tick-raised, table_for-first}
use Rattle.tab_page.specs.Pages.{page_of, page_below, start_key}
use Rattle.tab_page.proofs.PageLaws.{end_above-first}
use Rattle.tab_page.specs.declared.pages.Options.{Options}
use Rattle.tab_drive.specs.RunStates.{RunState, opened_state, group_name, name_of, last_number, IsAnswer, Takes, reply_of, next_tick_after, state_after}
use Rattle.tab_drive.specs.Stores.{Held, held_then, denial, answered, found_or_not, Names, Gets, Pages, OnTable, Lacks, Makes, IsRefusedGroup, LacksMoment, IsDecided}
use Rattle.tab_drive.specs.Sessions.{held_in, IsServing, entries_by, entries_for}
use Rattle.tab_drive.specs.declared.look_ups.LookUp.{LookUp}
use Rattle.tab_drive.specs.declared.schedule.Scheduled.{Scheduled}
use Rattle.tab_drive.specs.declared.stores.StoreAnswer.{StoreAnswer}
use Rattle.tab_drive.specs.declared.stores.Effect.TheVariants as effect

-- what a store holds after these entries
abbrev pub held_after : RunState → List Entry → Held
held_after state entries = record {
  names = (after_all state.past entries).world.names;
  next_table = (after_all state.past entries).world.next_table;
  rows = (after_all state.past entries).world.rows;
  next_tick = next_tick_after state.next_tick entries;
}

-- what holds of a state after the entries of a decided request
pub record Adds (state : RunState) (what : Ask) (decided : StoreAnswer) (entries : List Entry) : Type 0 where
  pub answer : Entry
  pub answers : IsAnswer state what answer
  pub takes : Takes state what answer entries
  pub replies : reply_of answer ≡ Some decided.reply
  pub allowed : EachAllowed state.past entries
  pub held : held_after state entries ≡ held_then (held_in state) decided.effect
  pub floors : IsNextTick (after_all state.past entries).world.floors (next_tick_after state.next_tick entries)
  pub bounds : (after_all state.past entries).bounds ≡ At 0 [] ∷ []
  pub settled : (after_all state.past entries).doubts ≡ []

-- the same, of the entries that this look-up and the reply give
abbrev AddsBy : RunState → Ask → Option LookUp → StoreAnswer → Type 0
AddsBy state what look decided = Adds state what decided (entries_by look state.number state.moment state.past.world.next_table what decided.reply)

adds_as : (state : RunState) (what : Ask) (look : Option LookUp) (decided same : StoreAnswer) → decided ≡ same → AddsBy state what look same → AddsBy state what look decided
adds_as state what look decided same is added = subst (λ (d : StoreAnswer). AddsBy state what look d) (sym is) added

-- a run begins with a store that is served
pub first_serving : (moment : ℕ) → IsServing (opened_state moment)
unfolding opened_state floor_of
first_serving moment = record {
  floors = record { above = λ key. omega arith; reached = inl refl };
  bounds = refl;
  settled = refl;
}

-- nothing is in doubt in a store that is served
nothing : (P : Doubt → Type 0) (state : RunState) → IsServing state → EachDoubt P state.past.doubts
nothing P state serving = subst (λ (doubts : List (ℕ × Doubt)). EachDoubt P doubts) (sym serving.settled) (no_doubts P)

-- ---- commands on tables

adds_created : (state : RunState) (name : List ℕ) → IsServing state → table_of state.past.world.names name ≡ None → state.past.world.next_table < last_number
    → AddsBy state (ask.Create name) None (record { reply = reply.Made name; effect = effect.Create name })
adds_created state name serving absent numbered = record {
  answer = entry.Create state.number name (Some state.past.world.next_table);
  answers = (refl, refl, numbered);
  takes = inr (tt, refl);
  replies = refl;
  allowed = ((absent, refl, nothing SparesNames state serving), tt);
  held = refl;
  floors = serving.floors;
  bounds = serving.bounds;
  settled = serving.settled;
}

adds_there : (state : RunState) (name : List ℕ) → IsServing state → is_some (table_of state.past.world.names name) ≡ true → AddsBy state (ask.Create name) None (denial denied.TableThere)
adds_there state name serving there = record {
  answer = entry.Create state.number name None;
  answers = (refl, refl, tt);
  takes = inr (tt, refl);
  replies = refl;
  allowed = ((there, nothing SparesNames state serving), tt);
  held = refl;
  floors = serving.floors;
  bounds = serving.bounds;
  settled = serving.settled;
}

adds_numbers_spent : (state : RunState) (name : List ℕ) → IsServing state → table_of state.past.world.names name ≡ None → last_number ≤ state.past.world.next_table
    → AddsBy state (ask.Create name) None (denial denied.IdsSpent)
adds_numbers_spent state name serving absent spent = record {
  answer = entry.Denied state.number denied.IdsSpent;
  answers = (refl, (absent, spent));
  takes = inr (tt, refl);
  replies = refl;
  allowed = (tt, tt);
  held = refl;
  floors = serving.floors;
  bounds = serving.bounds;
  settled = serving.settled;
}

adds_dropped : (state : RunState) (name : List ℕ) → IsServing state → is_some (table_of state.past.world.names name) ≡ true
    → AddsBy state (ask.Drop name) None (record { reply = reply.Dropped; effect = effect.Drop name })
adds_dropped state name serving there = record {
  answer = entry.Drop state.number name true;
  answers = (refl, refl);
  takes = inr (tt, refl);
  replies = refl;
  allowed = ((sym there, nothing SparesNames state serving), tt);
  held = refl;
  floors = serving.floors;
  bounds = serving.bounds;
  settled = serving.settled;
}

adds_none : (state : RunState) (name : List ℕ) → IsServing state → is_some (table_of state.past.world.names name) ≡ false → AddsBy state (ask.Drop name) None (denial denied.NoTable)
adds_none state name serving absent = record {
  answer = entry.Drop state.number name false;
  answers = (refl, refl);
  takes = inr (tt, refl);
  replies = refl;
  allowed = ((sym absent, nothing SparesNames state serving), tt);
  held = refl;
  floors = serving.floors;
  bounds = serving.bounds;
  settled = serving.settled;
}

adds_names : (state : RunState) (after : Option (List ℕ)) (top : ℕ) (decided : StoreAnswer) → IsServing state
    → Names (held_in state) after top decided → AddsBy state (ask.Tables after top) None decided
adds_names state after top decided serving is =
    adds_as state (ask.Tables after top) None decided _ is (record {
      answer = entry.List state.number after top _ _;
      answers = (refl, refl, refl);
      takes = inr (tt, refl);
      replies = refl;
      allowed = ((refl, refl, nothing SparesNames state serving), tt);
      held = refl;
      floors = serving.floors;
      bounds = serving.bounds;
      settled = serving.settled;
    })

-- no memory, for a command on tables
adds_alone : (state : RunState) (what : Ask) (serving : IsServing state) → (answers : IsAnswer state what (entry.Denied state.number denied.Memory)) → Adds state what (denial denied.Memory) (entry.Denied state.number denied.Memory ∷ [])
adds_alone state what serving answers = record {
  answer = entry.Denied state.number denied.Memory;
  answers = answers;
  takes = inr (tt, refl);
  replies = refl;
  allowed = (tt, tt);
  held = refl;
  floors = serving.floors;
  bounds = serving.bounds;
  settled = serving.settled;
}

-- ---- requests about the rows of a table

-- a look-up
abbrev found : List ℕ → Option ℕ → Option LookUp
found name table = Some (record { name = name; table = table })

-- that found no table
adds_missing : (state : RunState) (what : Ask) (name : List ℕ) → IsServing state → table_of state.past.world.names name ≡ None
    → IsAnswer state what (entry.Resolve state.number name None) → AddsBy state what (found name None) (denial denied.NoTable)
adds_missing state what name serving absent answers = record {
  answer = entry.Resolve state.number name None;
  answers = answers;
  takes = inr (tt, refl);
  replies = refl;
  allowed = ((sym absent, nothing SparesNames state serving), tt);
  held = refl;
  floors = serving.floors;
  bounds = serving.bounds;
  settled = serving.settled;
}

-- that found one, where no memory was found behind it
adds_denied : (state : RunState) (what : Ask) (name : List ℕ) (table : ℕ) → IsServing state → table_of state.past.world.names name ≡ Some table → name_of what ≡ Some name
    → IsAnswer state what (entry.Denied state.number denied.Memory) → Adds state what (denial denied.Memory) (entry.Resolve state.number name (Some table) ∷ entry.Denied state.number denied.Memory ∷ [])
adds_denied state what name table serving there named answers = record {
  answer = entry.Denied state.number denied.Memory;
  answers = answers;
  takes = inl (record { name = name; named = named; table = table; behind = tt; entries_are = refl });
  replies = refl;
  allowed = ((sym there, nothing SparesNames state serving), (tt, tt));
  held = refl;
  floors = serving.floors;
  bounds = serving.bounds;
  settled = serving.settled;
}

-- a page of the one range goes on to the end of all keys
page_is : (state : RunState) (table : ℕ) (options : Options) → IsServing state
    → page_of state.past.world.rows state.past.bounds table options ≡ page_below state.past.world.rows table options End
unfolding page_of
page_is state table options serving =
    rw serving.bounds (ap (λ (end : Bound). page_below state.past.world.rows table options end) (end_above-first (start_key table options)))

adds_page : (state : RunState) (name : List ℕ) (table : ℕ) (options : Options) → IsServing state → table_of state.past.world.names name ≡ Some table
    → AddsBy state (ask.Page name options) (found name (Some table)) (answered (reply.Listed (page_below state.past.world.rows table options End)))
adds_page state name table options serving there = record {
  answer = entry.Page state.number table options (page_below state.past.world.rows table options End);
  answers = (refl, refl);
  takes = inl (record { name = name; named = refl; table = table; behind = tt; entries_are = refl });
  replies = refl;
  allowed = (
    (sym there, nothing SparesNames state serving),
    (
      (table_for-first state.past.tables state.number (Some table), sym (page_is state table options serving), nothing (SparesPage (start_key table options) (page_below state.past.world.rows table options End).end) state serving),
      tt,
    ),
  );
  held = refl;
  floors = serving.floors;
  bounds = serving.bounds;
  settled = serving.settled;
}

-- the row at a key, or that there is none
adds_found : (state : RunState) (name : List ℕ) (table : ℕ) (pk rk : List ℕ) (row : Option RowView) → IsServing state → table_of state.past.world.names name ≡ Some table
    → row_at state.past.world.rows (record { table = table; pk = pk; rk = rk }) ≡ row → AddsBy state (ask.Get name pk rk) (found name (Some table)) (answered (found_or_not row))
adds_found state name table pk rk (Some row) serving there is = record {
  answer = entry.Get state.number table pk rk (Some row);
  answers = (refl, refl, refl);
  takes = inl (record { name = name; named = refl; table = table; behind = tt; entries_are = refl });
  replies = refl;
  allowed = (
    (sym there, nothing SparesNames state serving),
    ((table_for-first state.past.tables state.number (Some table), sym is, nothing (SparesKeys (record { table = table; pk = pk; rk = rk } ∷ [])) state serving), tt),
  );
  held = refl;
  floors = serving.floors;
  bounds = serving.bounds;
  settled = serving.settled;
}
adds_found state name table pk rk None serving there is = record {
  answer = entry.Get state.number table pk rk None;
  answers = (refl, refl, refl);
  takes = inl (record { name = name; named = refl; table = table; behind = tt; entries_are = refl });
  replies = refl;
  allowed = (
    (sym there, nothing SparesNames state serving),
    ((table_for-first state.past.tables state.number (Some table), sym is, nothing (SparesKeys (record { table = table; pk = pk; rk = rk } ∷ [])) state serving), tt),
  );
  held = refl;
  floors = serving.floors;
  bounds = serving.bounds;
  settled = serving.settled;
}

no_empty_group : IsGroup [] → ⊥
unfolding group_refusal
no_empty_group group = let none = group.allowed in cc

-- a group has an item
pub some_item : (group : List ItemView) → IsGroup group → 0 < length group
some_item [] is_group = absurd (no_empty_group is_group)
some_item (item ∷ items) is_group = omega arith

-- the first item's name is the group's
pub named_first : (group items : List ItemView) (item : ItemView) → items ≡ group → IsGroup group → item ≡ get_or items 0 item → item.name ≡ group_name group
named_first [] items item same is_group first = absurd (no_empty_group is_group)
named_first (own ∷ group) items item same is_group first =
    ap (λ (i : ItemView). i.name) (first ∙ ap (λ (all : List ItemView). get_or all 0 item) same)

-- the floors after a group, of which each key has the tick
floors_after : (state : RunState) (table tick : ℕ) (group : List ItemView) → IsServing state → IsGroup group → tick ≡ max state.moment state.next_tick
    → IsNextTick (raised state.past.world.floors (group_keys table group) tick) (tick + 1)
floors_after state table tick [] serving is_group is = absurd (no_empty_group is_group)
floors_after state table tick (item ∷ items) serving is_group is =
    next_tick-raised state.past.world.floors state.next_tick tick (item_key table item) (group_keys table items) serving.floors (omega (arith, is))

-- a change that stands
adds_changes : (state : RunState) (group : List ItemView) (table tick : ℕ) (made : Changes) → IsServing state → IsGroup group → table_of state.past.world.names (group_name group) ≡ Some table
    → tick ≡ max state.moment state.next_tick → tick ≤ GREATEST → made.tick ≡ tick → group_outcome state.past.world.rows table tick group ≡ Ok (applied state.past.world.rows made.list)
    → AddsBy state (ask.Change group) (found (group_name group) (Some table)) (record { reply = reply.Changed tick; effect = effect.Change made })
adds_changes state group table tick made serving is_group there is in_time tick_is outcome =
    let greatest : max state.moment state.next_tick ≤ GREATEST = omega (arith, is, in_time) in
    let may : MayHaveTick state.past.world.floors (group_keys table group) state.moment tick =
    rw is (may_have_next state.past.world.floors state.next_tick state.moment (group_keys table group) serving.floors greatest) in
    record {
      answer = entry.Change state.number state.moment table group (Ok tick);
      answers = (refl, refl, refl, greatest, is);
      takes = inl (record { name = group_name group; named = refl; table = table; behind = tt; entries_are = refl });
      replies = refl;
      allowed = (
        (sym there, nothing SparesNames state serving),
        ((table_for-first state.past.tables state.number (Some table), (applied state.past.world.rows made.list, outcome), may, nothing (SparesKeys (group_keys table group)) state serving), tt),
      );
      held = rw (outcome, tick_is) refl;
      floors = floors_after state table tick group serving is_group is;
      bounds = serving.bounds;
      settled = serving.settled;
    }

-- a change that is refused
adds_refusal : (state : RunState) (group : List ItemView) (table : ℕ) (refusal : OpRefused) → IsServing state → IsGroup group → table_of state.past.world.names (group_name group) ≡ Some table
    → max state.moment state.next_tick ≤ GREATEST → group_outcome state.past.world.rows table (max state.moment state.next_tick) group ≡ Err refusal
    → AddsBy state (ask.Change group) (found (group_name group) (Some table)) (denial (denied.Op refusal))
adds_refusal state group table refusal serving is_group there in_time outcome = record {
  answer = entry.Change state.number state.moment table group (Err refusal);
  answers = (refl, refl, refl, in_time, tt);
  takes = inl (record { name = group_name group; named = refl; table = table; behind = tt; entries_are = refl });
  replies = refl;
  allowed = (
    (sym there, nothing SparesNames state serving),
    (
      (
        table_for-first state.past.tables state.number (Some table),
        refused_at_any_tick state.past.world.rows table (max state.moment state.next_tick) 0 group refusal is_group.apart outcome,
        nothing (SparesKeys (group_keys table group)) state serving,
      ),
      tt,
    ),
  );
  held = refl;
  floors = serving.floors;
  bounds = serving.bounds;
  settled = serving.settled;
}

-- a change for whose tick no moment is left
adds_spent : (state : RunState) (group : List ItemView) (table : ℕ) → IsServing state → table_of state.past.world.names (group_name group) ≡ Some table
    → GREATEST < max state.moment state.next_tick → AddsBy state (ask.Change group) (found (group_name group) (Some table)) (denial denied.TimeSpent)
adds_spent state group table serving there spent = record {
  answer = entry.Denied state.number denied.TimeSpent;
  answers = (refl, spent);
  takes = inl (record { name = group_name group; named = refl; table = table; behind = tt; entries_are = refl });
  replies = refl;
  allowed = ((sym there, nothing SparesNames state serving), (tt, tt));
  held = refl;
  floors = serving.floors;
  bounds = serving.bounds;
  settled = serving.settled;
}

-- ---- each decided request

get_adds : (state : RunState) (name pk rk : List ℕ) (decided : StoreAnswer) (table : Option ℕ) → IsServing state → table_of state.past.world.names name ≡ table
    → OnTable table (λ number. Gets (held_in state) (record { table = number; pk = pk; rk = rk }) decided ⊎ Lacks decided) decided
    → AddsBy state (ask.Get name pk rk) (found name table) decided
get_adds state name pk rk decided None serving is none_is = adds_as state _ (found name None) decided _ none_is (adds_missing state (ask.Get name pk rk) name serving is (refl, refl))
get_adds state name pk rk decided (Some table) serving is (inl gets) = adds_as state _ (found name (Some table)) decided _ gets (adds_found state name table pk rk _ serving is refl)
get_adds state name pk rk decided (Some table) serving is (inr lacks) = adds_as state _ (found name (Some table)) decided _ lacks (adds_denied state (ask.Get name pk rk) name table serving is refl (refl, tt))

page_adds : (state : RunState) (name : List ℕ) (options : Options) (decided : StoreAnswer) (table : Option ℕ) → IsServing state → table_of state.past.world.names name ≡ table
    → OnTable table (λ number. Pages (held_in state) number options decided ⊎ Lacks decided) decided
    → AddsBy state (ask.Page name options) (found name table) decided
page_adds state name options decided None serving is none_is = adds_as state _ (found name None) decided _ none_is (adds_missing state (ask.Page name options) name serving is (refl, refl))
page_adds state name options decided (Some table) serving is (inl pages) = adds_as state _ (found name (Some table)) decided _ pages (adds_page state name table options serving is)
page_adds state name options decided (Some table) serving is (inr lacks) = adds_as state _ (found name (Some table)) decided _ lacks (adds_denied state (ask.Page name options) name table serving is refl (refl, tt))

change_adds : (state : RunState) (group : List ItemView) (decided : StoreAnswer) (table : Option ℕ) → IsServing state → table_of state.past.world.names (group_name group) ≡ table
    → OnTable table
    (λ number. Makes (held_in state) state.moment number group decided
    ⊎ (IsRefusedGroup (held_in state) state.moment number group decided ⊎ (LacksMoment (held_in state) state.moment decided ⊎ Lacks decided))) decided
    → AddsBy state (ask.Change group) (found (group_name group) table) decided
change_adds state group decided None serving is none_is = adds_as state _ (found (group_name group) None) decided _ none_is (adds_missing state (ask.Change group) (group_name group) serving is (refl, refl))
change_adds state group decided (Some table) serving is (inl makes) =
    adds_as state _ (found (group_name group) (Some table)) decided _ makes.is (adds_changes state group table _ makes.made serving makes.is_group is refl makes.in_time makes.tick_is makes.outcome)
change_adds state group decided (Some table) serving is (inr (inl refuses)) =
    adds_as state _ (found (group_name group) (Some table)) decided _ refuses.is (adds_refusal state group table refuses.refusal serving refuses.is_group is refuses.in_time refuses.outcome)
change_adds state group decided (Some table) serving is (inr (inr (inl spends))) = adds_as state _ (found (group_name group) (Some table)) decided _ spends.is (adds_spent state group table serving is spends.spent)
change_adds state group decided (Some table) serving is (inr (inr (inr lacks))) =
    adds_as state _ (found (group_name group) (Some table)) decided _ lacks (adds_denied state (ask.Change group) (group_name group) table serving is refl (refl, tt))

-- every decided request adds what its reply says
pub adds : (state : RunState) (what : Ask) (decided : StoreAnswer) → IsServing state → IsDecided (held_in state) state.moment what decided
    → Adds state what decided (entries_for state.number state.moment (held_in state) what decided.reply)
adds state (ask.Create name) decided serving (inl creates) = adds_as state _ None decided _ creates.is (adds_created state name serving creates.absent creates.numbered)
adds state (ask.Create name) decided serving (inr (inl finds)) = adds_as state _ None decided _ finds.is (adds_there state name serving finds.there)
adds state (ask.Create name) decided serving (inr (inr (inl lacks))) = adds_as state _ None decided _ lacks.is (adds_numbers_spent state name serving lacks.absent lacks.spent)
adds state (ask.Create name) decided serving (inr (inr (inr lacks))) = adds_as state _ None decided _ lacks (adds_alone state (ask.Create name) serving (refl, tt))
adds state (ask.Drop name) decided serving (inl drops) = adds_as state _ None decided _ drops.is (adds_dropped state name serving drops.there)
adds state (ask.Drop name) decided serving (inr (inl finds)) = adds_as state _ None decided _ finds.is (adds_none state name serving finds.absent)
adds state (ask.Drop name) decided serving (inr (inr lacks)) = adds_as state _ None decided _ lacks (adds_alone state (ask.Drop name) serving (refl, tt))
adds state (ask.Tables after top) decided serving (inl names) = adds_names state after top decided serving names
adds state (ask.Tables after top) decided serving (inr lacks) = adds_as state _ None decided _ lacks (adds_alone state (ask.Tables after top) serving (refl, tt))
adds state (ask.Get name pk rk) decided serving comes = get_adds state name pk rk decided (table_of state.past.world.names name) serving refl comes
adds state (ask.Page name options) decided serving comes = page_adds state name options decided (table_of state.past.world.names name) serving refl comes
adds state (ask.Change group) decided serving comes = change_adds state group decided (table_of state.past.world.names (group_name group)) serving refl comes

-- a decided request leaves a store that is served
pub serving_after : (state : RunState) (event : Scheduled) (what : Ask) (decided : StoreAnswer) (entries : List Entry) → Adds state what decided entries → IsServing (state_after state event entries)
unfolding state_after
serving_after state event what decided entries added = record {
  floors = added.floors;
  bounds = added.bounds;
  settled = added.settled;
}

-- and holds what it was decided to hold then
pub holding_after : (state : RunState) (event : Scheduled) (what : Ask) (decided : StoreAnswer) (entries : List Entry) → Adds state what decided entries
    → held_in (state_after state event entries) ≡ held_then (held_in state) decided.effect
unfolding state_after
holding_after state event what decided entries added = added.held
