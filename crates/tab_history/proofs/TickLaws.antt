-- Floors never fall, each row's tick is below its key's floor, and so the ticks of one key's changes rise.
use Rattle.std.proofs.Common.{◌≡◌, ℕ, ◌+◌, ◌<◌, ◌≤◌, ◌⊎◌, List, [], ◌∷◌, ◌++◌, Bool, true, false, cond, ◌||◌, All, refl, sym, ap, ◌∙◌, subst, inl, inr, arith}
use Rattle.std.specs.Prelude.{Option, Some, None, Result, Ok, Err, IfSome, IsSomeAnd}
use Rattle.std.specs.Result.{result_unwrap_or}
use Rattle.std.proofs.lemmas.Bool.{true≢false}
use Rattle.std.proofs.lemmas.Option.{none-some, same_Some}
use Rattle.std.proofs.lemmas.List.Elements.{All-contains, All-weaker}
use Rattle.tab_keys.specs.Order.{same_key}
use Rattle.tab_keys.specs.declared.keys.Key.{Key}
use Rattle.tab_edm.specs.Entities.{EntityView}
use Rattle.tab_rows.specs.Rows.{RowView, row_at, with_row, without_row}
use Rattle.tab_rows.proofs.RowLaws.{row_at-with_row, row_at-without_row}
use Rattle.tab_page.proofs.RisingLists.{All-from_each}
use Rattle.tab_ops.specs.Groups.{ItemView, item_key}
use Rattle.tab_keys.specs.Results.{◌>>=◌}
use Rattle.tab_ops.specs.Changes.{outcome_of, settled, rows_after, group_keys}
use Rattle.tab_ops.specs.declared.groups.OpRefused.{OpRefused}
use Rattle.tab_history.specs.World.{World, IsWorld, floor_of, raised}
use Rattle.tab_history.specs.Doubts.{Spares, Accepts}
use Rattle.tab_history.specs.Legality.{State, accepted, acted, world_after, after, after_all, Legal}
use Rattle.tab_history.specs.Followed.{IsUnchanged}
use Rattle.tab_history.specs.Ticks.{Changes, TicksRise, TicksTellRows}
use Rattle.tab_history.specs.declared.entries.Entry.{Entry}
use Rattle.tab_history.specs.declared.entries.Doubt.{Doubt}
use Rattle.tab_history.specs.declared.entries.Doubt.TheVariants as doubt
use Rattle.tab_history.proofs.GroupLaws.{rows_after-keep, group-all, settled-other, err_ok}
use Rattle.tab_history.proofs.FollowedLaws.{row_at-found}
use Rattle.tab_history.proofs.FloorLaws.{row_at-alike, floor_of-alike, any_contains, none_of_them, any_holds, changed_by, floor_of-raised_all}
use Rattle.tab_history.proofs.DoubtLaws.{LegalSteps, legal_steps}
use Rattle.tab_history.proofs.HistoryLaws.{kept, after_all-append, steps_parts, unchanged_after}

acted-floor : (key : Key) (n : ℕ) (world : World) (operation : Doubt) → Accepts world operation → n ≤ floor_of world.floors key → n ≤ floor_of (acted world operation).floors key
acted-floor key n world (doubt.Change table group tick) a h = subst (λ floor. n ≤ floor) (sym (floor_of-raised_all world.floors (group_keys table group) tick key)) (by_test (changed_by key (group_keys table group)) refl)
  where
    low : changed_by key (group_keys table group) ≡ true → floor_of world.floors key ≤ tick
    low e = any_holds (λ other. floor_of world.floors other ≤ tick) key (λ other same k. subst (λ floor. floor ≤ tick) (floor_of-alike world.floors other key same) k) (group_keys table group) a.1 e

    by_test : (t : Bool) → changed_by key (group_keys table group) ≡ t → n ≤ cond t (tick + 1) (floor_of world.floors key)
    by_test true e = let below : floor_of world.floors key ≤ tick = low e in omega arith
    by_test false e = h
acted-floor key n world (doubt.Create name table) a h = h
acted-floor key n world (doubt.Drop name) a h = h

-- no floor falls
pub floor_after : (key : Key) (state : State) (entries : List Entry) → LegalSteps state entries → floor_of state.world.floors key ≤ floor_of (after_all state entries).world.floors key
floor_after key state entries legal = kept (λ world. floor_of state.world.floors key ≤ floor_of world.floors key) (acted-floor key (floor_of state.world.floors key)) state entries legal (omega arith)

-- an accepted change has a tick from the key's floor on, and puts the floor past it
changed-floor : (key : Key) (tick : ℕ) (world : World) (operation : Doubt) → Accepts world operation → Changes key tick operation → (floor_of world.floors key ≤ tick) × (floor_of (acted world operation).floors key ≡ tick + 1)
changed-floor key tick world (doubt.Change table group own) a changes = (
  subst (λ n. floor_of world.floors key ≤ n) changes.0
      (any_holds (λ other. floor_of world.floors other ≤ own) key (λ other same k. subst (λ floor. floor ≤ own) (floor_of-alike world.floors other key same) k) (group_keys table group) a.1 changes.1),
  floor_of-raised_all world.floors (group_keys table group) own key ∙ (ap (λ t. cond t (own + 1) (floor_of world.floors key)) changes.1 ∙ ap (λ n. n + 1) changes.0),
)
changed-floor key tick world (doubt.Create name table) a changes = absurd changes
changed-floor key tick world (doubt.Drop name) a changes = absurd changes

entry-floor : (key : Key) (tick : ℕ) (world : World) (operation : Option Doubt) → IfSome operation (Accepts world) → IsSomeAnd operation (Changes key tick) → (floor_of world.floors key ≤ tick) × (floor_of (world_after world operation).floors key ≡ tick + 1)
entry-floor key tick world None a changes = absurd changes
entry-floor key tick world (Some operation) a changes = changed-floor key tick world operation a changes

pub ticks_rise : (opening : State) (history : List Entry) → Legal opening history → TicksRise opening history
ticks_rise opening history legal before between later first second key tick next e changes again =
    let outer = steps_parts opening before (first ∷ (between ++ (second ∷ later))) (subst (LegalSteps opening) e (legal_steps opening history legal)) in
    let state = after_all opening before in
    let inner = steps_parts (after state first) between (second ∷ later) outer.1.1 in
    let past = (entry-floor key tick state.world (accepted state.doubts first) outer.1.0.1 changes).1 in
    let rises = floor_after key (after state first) between inner.0 in
    let reached = after_all (after state first) between in
    let from = (entry-floor key next reached.world (accepted reached.doubts second) inner.1.0.1
    (subst (λ (it : State). IsSomeAnd (accepted it.doubts second) (Changes key next)) (after_all-append opening before (first ∷ between)) again)).0 in
    let low : tick + 1 ≤ floor_of (after_all (after state first) between).world.floors key = subst (λ n. n ≤ floor_of (after_all (after state first) between).world.floors key) past rises in
    omega (arith, low, from)

-- ---- ticks of rows

-- each row's tick is below its key's floor
pub acted-below : (world : World) (operation : Doubt) → Accepts world operation → All (λ row. row.tick < floor_of world.floors row.key) world.rows → All (λ row. row.tick < floor_of (acted world operation).floors row.key) (acted world operation).rows
acted-below world (doubt.Change table group tick) a h =
    subst (λ result. All below (result_unwrap_or result world.rows)) (sym a.0.1)
    (group-all below world.rows a.0.0 table tick group
    (All-from_each (λ key. (entity : EntityView) → below (record { key = key; entity = entity; tick = tick })) (group_keys table group)
    (λ key within entity. put key (any_contains (group_keys table group) key within)))
    (All-weaker (λ row. row.tick < floor_of world.floors row.key) below
    (λ row k. old row.key row.tick (acted-floor row.key (row.tick + 1) world (doubt.Change table group tick) a) k)
    world.rows h)
    a.0.1)
  where
    below : RowView → Type 0
    below row = row.tick < floor_of (raised world.floors (group_keys table group) tick) row.key

    put : (key : Key) → changed_by key (group_keys table group) ≡ true → tick < floor_of (raised world.floors (group_keys table group) tick) key
    put key e =
        subst (λ floor. tick < floor) (sym (floor_of-raised_all world.floors (group_keys table group) tick key ∙ ap (λ t. cond t (tick + 1) (floor_of world.floors key)) e)) (omega arith)

    old : (key : Key) (n : ℕ) → (n + 1 ≤ floor_of world.floors key → n + 1 ≤ floor_of (raised world.floors (group_keys table group) tick) key) → n < floor_of world.floors key → n < floor_of (raised world.floors (group_keys table group) tick) key
    old key n rises k = let risen : n + 1 ≤ floor_of (raised world.floors (group_keys table group) tick) key = rises (omega arith) in omega arith
acted-below world (doubt.Create name table) a h = h
acted-below world (doubt.Drop name) a h = h

pub ticks_below_after : (state : State) (entries : List Entry) → LegalSteps state entries → All (λ row. row.tick < floor_of state.world.floors row.key) state.world.rows → All (λ row. row.tick < floor_of (after_all state entries).world.floors row.key) (after_all state entries).world.rows
ticks_below_after = kept (λ world. All (λ row. row.tick < floor_of world.floors row.key) world.rows) acted-below

settled-own : (rows : List RowView) (key other : Key) (tick : ℕ) (outcome : Option EntityView) → same_key key other ≡ true → (row : RowView) → row_at (settled rows key tick outcome) other ≡ Some row → row.tick ≡ tick
settled-own rows key other tick (Some entity) same row h =
    let put : RowView = record { key = key; entity = entity; tick = tick } in
    sym (ap (λ (it : RowView). it.tick) (same_Some put row (sym (row_at-with_row rows put) ∙ (row_at-alike (with_row rows put) key other same ∙ h))))
settled-own rows key other tick None same row h =
    absurd (none-some row (sym (row_at-without_row rows key) ∙ (row_at-alike (without_row rows key) key other same ∙ h)))

-- the row at the key has the tick, if there is one
abbrev HasTick : Key → ℕ → List RowView → Type 0
HasTick key tick rows = (row : RowView) → row_at rows key ≡ Some row → row.tick ≡ tick

settled-tick : (key : Key) (tick : ℕ) (rows : List RowView) (own : Key) (outcome : Option EntityView) → HasTick key tick rows → HasTick key tick (settled rows own tick outcome)
settled-tick key tick rows own outcome h = by_test (same_key own key) refl
  where
    by_test : (t : Bool) → same_key own key ≡ t → HasTick key tick (settled rows own tick outcome)
    by_test true e = settled-own rows own key tick outcome e
    by_test false e = λ row k. h row (sym (settled-other rows own key tick outcome e) ∙ k)

-- after a group the row at each of its keys has its tick
group-tick : (key : Key) (table tick : ℕ) (items : List ItemView) (index : ℕ) (rows later : List RowView) → changed_by key (group_keys table items) ≡ true → rows_after index rows table tick items ≡ Ok later → HasTick key tick later
group-tick key table tick [] index rows later changes e = absurd (true≢false (sym changes))
group-tick key table tick (item ∷ items) index rows later changes e =
    by_outcome (λ between k f. group-tick key table tick items (index + 1) between later k f) (outcome_of index (row_at rows (item_key table item)) item.op) e
  where
    own : Key
    own = item_key table item

    by_test : (between : List RowView) (outcome : Option EntityView) → between ≡ settled rows own tick outcome → (changed_by key (group_keys table items) ≡ true → HasTick key tick later) → rows_after (index + 1) between table tick items ≡ Ok later
        → (t : Bool) → same_key own key ≡ t → HasTick key tick later
    by_test between outcome is rest f true k =
        rows_after-keep (HasTick key tick) table tick items (λ kept other settles within has. settled-tick key tick kept (item_key table other) settles has) (index + 1) between later
        (subst (HasTick key tick) (sym is) (settled-own rows own key tick outcome k)) f
    by_test between outcome is rest f false k = rest (ap (λ t. t || changed_by key (group_keys table items)) (sym k) ∙ changes)

    by_outcome : ((between : List RowView) → changed_by key (group_keys table items) ≡ true → rows_after (index + 1) between table tick items ≡ Ok later → HasTick key tick later)
        → (outcome : Result (Option EntityView) OpRefused)
        → (outcome >>= λ settles. rows_after (index + 1) (settled rows own tick settles) table tick items) ≡ Ok later → HasTick key tick later
    by_outcome rest (Ok outcome) f = by_test (settled rows own tick outcome) outcome refl (λ k. rest (settled rows own tick outcome) k f) f (same_key own key) refl
    by_outcome rest (Err refusal) f = absurd (err_ok later refusal (Err refusal) refl f)

-- an operation spares a key, or the row that it leaves there has a tick from the floor on
operation_tells : (key : Key) (world : World) (operation : Option Doubt) → IfSome operation (Accepts world)
    → IfSome operation (Spares key) ⊎ ((row : RowView) → row_at (world_after world operation).rows key ≡ Some row → floor_of world.floors key ≤ row.tick)
operation_tells key world None a = inl tt
operation_tells key world (Some (doubt.Create name table)) a = inl tt
operation_tells key world (Some (doubt.Drop name)) a = inl tt
operation_tells key world (Some (doubt.Change table group tick)) a = by_test (changed_by key (group_keys table group)) refl
  where
    by_test : (t : Bool) → changed_by key (group_keys table group) ≡ t
        → Spares key (doubt.Change table group tick) ⊎ ((row : RowView) → row_at (acted world (doubt.Change table group tick)).rows key ≡ Some row → floor_of world.floors key ≤ row.tick)
    by_test true e = inr
        (λ row h.
        let own : row.tick ≡ tick = group-tick key table tick group 0 world.rows a.0.0 e a.0.1 row (subst (λ result. row_at (result_unwrap_or result world.rows) key ≡ Some row) a.0.1 h) in
        let from : floor_of world.floors key ≤ tick = (changed-floor key tick world (doubt.Change table group tick) a (refl, e)).0 in
        omega (arith, own, from))
    by_test false e = inl (none_of_them (group_keys table group) key e)

entries_tell : (key : Key) (state : State) (entries : List Entry) → LegalSteps state entries
    → IsUnchanged key state entries ⊎ ((row : RowView) → row_at (after_all state entries).world.rows key ≡ Some row → floor_of state.world.floors key ≤ row.tick)
entries_tell key state [] legal = inl tt
entries_tell key state (entry ∷ entries) legal =
    both (entries_tell key (after state entry) entries legal.1) (operation_tells key state.world (accepted state.doubts entry) legal.0.1)
  where
    rises : floor_of state.world.floors key ≤ floor_of (after state entry).world.floors key
    rises = floor_after key state (entry ∷ []) (legal.0, tt)

    both : IsUnchanged key (after state entry) entries ⊎ ((row : RowView) → row_at (after_all (after state entry) entries).world.rows key ≡ Some row → floor_of (after state entry).world.floors key ≤ row.tick)
        → IfSome (accepted state.doubts entry) (Spares key) ⊎ ((row : RowView) → row_at (after state entry).world.rows key ≡ Some row → floor_of state.world.floors key ≤ row.tick)
        → IsUnchanged key state (entry ∷ entries) ⊎ ((row : RowView) → row_at (after_all (after state entry) entries).world.rows key ≡ Some row → floor_of state.world.floors key ≤ row.tick)
    both (inr later) first = inr (λ row h. let from : floor_of (after state entry).world.floors key ≤ row.tick = later row h in omega (arith, rises, from))
    both (inl unchanged) (inl spared) = inl (spared, unchanged)
    both (inl unchanged) (inr put) = inr (λ row h. put row (sym (unchanged_after key (after state entry) entries legal.1 unchanged) ∙ h))

pub ticks_tell_rows : (opening : State) (history : List Entry) → IsWorld opening.world → Legal opening history → TicksTellRows opening history
ticks_tell_rows opening history world legal before between later key row other e here there same =
    let outer = steps_parts opening before (between ++ later) (subst (LegalSteps opening) e (legal_steps opening history legal)) in
    let inner = steps_parts (after_all opening before) between later outer.1 in
    by_change outer.0 inner.0 (entries_tell key (after_all opening before) between inner.0)
  where
    state : State
    state = after_all opening before

    kept_there : row_at (after_all state between).world.rows key ≡ Some other
    kept_there = ap (λ (it : State). row_at it.world.rows key) (sym (after_all-append opening before between)) ∙ there

    by_change : LegalSteps opening before → LegalSteps state between → IsUnchanged key state between ⊎ ((found : RowView) → row_at (after_all state between).world.rows key ≡ Some found → floor_of state.world.floors key ≤ found.tick) → IsUnchanged key state between × (row ≡ other)
    by_change first rest (inl unchanged) = (unchanged, same_Some row other (sym here ∙ (sym (unchanged_after key state between rest unchanged) ∙ kept_there)))
    by_change first rest (inr from) =
        let found = row_at-found state.world.rows key row here in
        let below : row.tick < floor_of state.world.floors row.key = All-contains (λ it. it.tick < floor_of state.world.floors it.key) state.world.rows row (ticks_below_after opening before first world.ticks_below) found.0 in
        let alike : floor_of state.world.floors row.key ≡ floor_of state.world.floors key = floor_of-alike state.world.floors row.key key found.1 in
        let above : floor_of state.world.floors key ≤ other.tick = from other kept_there in
        absurd (omega (arith, below, alike, above, same))
