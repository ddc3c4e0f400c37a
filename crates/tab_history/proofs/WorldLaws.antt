-- A legal history leads from a world to a world.
use Rattle.std.proofs.Common.{◌≡◌, ℕ, ◌+◌, ◌<◌, ◌≤◌, List, [], ◌∷◌, Bool, true, false, cond, ◌==◌, map, not, All, refl, sym, subst, arith}
use Rattle.std.specs.Prelude.{Option, Some, None, IsFalse, Ok, Err, IfSome, find, option_map, option_and_then, bytes_eq}
use Rattle.std.specs.Result.{result_unwrap_or}
use Rattle.std.proofs.lemmas.List.Elements.{All-nil, All-cons, All-head, All-tail, All-filter, All-weaker}
use Rattle.std.proofs.lemmas.List.Kept.{AllPairs-filter}
use Rattle.std.proofs.lemmas.Bool.{eqb-true}
use Rattle.std.proofs.lemmas.Option.{none-some}
use Rattle.tab_keys.specs.TableNames.{folded}
use Rattle.tab_keys.specs.declared.keys.Key.{Key}
use Rattle.tab_edm.specs.Entities.{EntityView}
use Rattle.tab_rows.specs.Rows.{RowView}
use Rattle.tab_ops.specs.Groups.{ItemView, item_key}
use Rattle.tab_history.specs.World.{World, Named, IsWorld, table_of, without_name}
use Rattle.tab_history.specs.Doubts.{Accepts, EachDoubt}
use Rattle.tab_history.specs.Legality.{State, accepted, acted, world_after, tables_after, doubts_after, after, after_all, table_for, Allows, Legal}
use Rattle.tab_history.specs.Kept.{IsBelow, HasTablesBelow}
use Rattle.tab_history.specs.declared.entries.Entry.{Entry}
use Rattle.tab_history.specs.declared.entries.Entry.TheVariants as entry
use Rattle.tab_history.specs.declared.entries.Doubt.{Doubt}
use Rattle.tab_history.specs.declared.entries.Doubt.TheVariants as doubt
use Rattle.tab_history.proofs.GroupLaws.{group-all}
use Rattle.tab_history.proofs.NameLaws.{Below, is_named, All-with_name, AllPairs-with_name, rising-with_name}
use Rattle.tab_history.proofs.DoubtLaws.{LegalSteps, legal_steps, found_holds}
use Rattle.tab_history.proofs.HistoryLaws.{acted-rising}
use Rattle.tab_history.proofs.TickLaws.{acted-below}

-- a name's table is one of the names' tables
named_below : (next : ℕ) (names : List Named) (name : List ℕ) → All (λ named. named.table < next) names → IfSome (table_of names name) (λ table. table < next)
unfolding table_of
named_below next [] name h = tt
named_below next (first ∷ names) name h = by_test (named_below next names name (All-tail (λ named. named.table < next) first names h)) (bytes_eq (folded first.spelling) (folded name))
  where
    by_test : IfSome (option_map (λ (named : Named). named.table) (find (λ named. bytes_eq (folded named.spelling) (folded name)) names)) (λ table. table < next)
        → (t : Bool) → IfSome (option_map (λ (named : Named). named.table) (cond t (Some first) (find (λ named. bytes_eq (folded named.spelling) (folded name)) names))) (λ table. table < next)
    by_test rest true = All-head (λ (named : Named). named.table < next) first names h
    by_test rest false = rest

-- so is what a request was told
told_below : (next : ℕ) (tables : List (ℕ × Option ℕ)) (ask table : ℕ) → All (λ last. IfSome last.1 (λ told. told < next)) tables → table_for tables ask ≡ Some table → table < next
unfolding table_for
told_below next [] ask table h e = absurd (none-some table e)
told_below next (first ∷ tables) ask table h e = by_test (λ k. told_below next tables ask table (All-tail (λ (last : ℕ × Option ℕ). IfSome last.1 (λ told. told < next)) first tables h) k) (first.0 == ask) e
  where
    by_test : (option_and_then (λ (last : ℕ × Option ℕ). last.1) (find (λ last. last.0 == ask) tables) ≡ Some table → table < next)
        → (t : Bool) → option_and_then (λ (last : ℕ × Option ℕ). last.1) (cond t (Some first) (find (λ last. last.0 == ask) tables)) ≡ Some table → table < next
    by_test rest true k = subst (λ (told : Option ℕ). IfSome told (λ number. number < next)) k (All-head (λ (last : ℕ × Option ℕ). IfSome last.1 (λ told. told < next)) first tables h)
    by_test rest false k = rest k

-- a change of rows of one of the tables keeps a world
change_keeps : (world : World) (table tick : ℕ) (group : List ItemView) → Accepts world (doubt.Change table group tick) → table < world.next_table → IsWorld world → IsWorld (acted world (doubt.Change table group tick))
change_keeps world table tick group a below h = record {
  names_rise = h.names_rise;
  numbers_differ = h.numbers_differ;
  names_below = h.names_below;
  rows_rise = acted-rising world (doubt.Change table group tick) a h.rows_rise;
  rows_below =
      let P = λ (row : RowView). row.key.table < world.next_table in
      subst (λ result. All P (result_unwrap_or result world.rows)) (sym a.0.1) (group-all P world.rows a.0.0 table tick group (keys_below group) h.rows_below a.0.1);
  ticks_below = acted-below world (doubt.Change table group tick) a h.ticks_below;
}
  where
    keys_below : (items : List ItemView) → All (λ key. (entity : EntityView) → key.table < world.next_table) (map (item_key table) items)
    keys_below [] = All-nil (λ (key : Key). (entity : EntityView) → key.table < world.next_table)
    keys_below (item ∷ items) = All-cons (λ (key : Key). (entity : EntityView) → key.table < world.next_table) (item_key table item) (map (item_key table) items) (λ entity. below) (keys_below items)

-- ---- names

-- two tables' numbers differ
abbrev Differ : Named → Named → Type 0
Differ a b = IsFalse (a.table == b.table)

apart : (a b : ℕ) → (a ≡ b → ⊥) → (a == b) ≡ false
apart a b differ = by_test (a == b) refl
  where
    by_test : (t : Bool) → (a == b) ≡ t → (a == b) ≡ false
    by_test true e = absurd (differ (eqb-true a b e))
    by_test false e = e

-- a table with the next number keeps a world
create_keeps : (world : World) (name : List ℕ) (table : ℕ) → Accepts world (doubt.Create name table) → IsWorld world → IsWorld (acted world (doubt.Create name table))
create_keeps world name table a h = record {
  names_rise = rising-with_name world.names named a.0 h.names_rise;
  numbers_differ =
      AllPairs-with_name Differ world.names named h.numbers_differ
      (All-weaker Given (Differ named) (λ other k. apart table other.table (below_differ other.table k)) world.names h.names_below)
      (All-weaker Given (λ other. Differ other named) (λ other k. apart other.table table (λ e. below_differ other.table k (sym e))) world.names h.names_below);
  names_below =
      All-with_name (λ other. other.table < table + 1) world.names named
      (All-weaker Given (λ other. other.table < table + 1) (λ other k. still_below other.table k) world.names h.names_below) (omega arith);
  rows_rise = h.rows_rise;
  rows_below = All-weaker (λ row. row.key.table < world.next_table) (λ row. row.key.table < table + 1) (λ row k. still_below row.key.table k) world.rows h.rows_below;
  ticks_below = h.ticks_below;
}
  where
    named : Named
    named = record { spelling = name; table = table }

    Given : Named → Type 0
    Given other = other.table < world.next_table

    next : table ≡ world.next_table
    next = a.1

    below_differ : (other : ℕ) → other < world.next_table → table ≡ other → ⊥
    below_differ other k e = omega (arith, next, k, e)

    still_below : (other : ℕ) → other < world.next_table → other < table + 1
    still_below other k = omega (arith, next, k)

-- so does a table that is dropped
drop_keeps : (world : World) (name : List ℕ) → IsWorld world → IsWorld (acted world (doubt.Drop name))
unfolding without_name
drop_keeps world name h = record {
  names_rise = AllPairs-filter Below (λ named. not (is_named name named)) world.names h.names_rise;
  numbers_differ = AllPairs-filter Differ (λ named. not (is_named name named)) world.names h.numbers_differ;
  names_below = All-filter (λ named. not (is_named name named)) (λ named. named.table < world.next_table) world.names h.names_below;
  rows_rise = h.rows_rise;
  rows_below = h.rows_below;
  ticks_below = h.ticks_below;
}

-- an operation on one of the tables keeps a world
acted_keeps : (world : World) (operation : Doubt) → Accepts world operation → IsBelow world.next_table operation → IsWorld world → IsWorld (acted world operation)
acted_keeps world (doubt.Change table group tick) a below h = change_keeps world table tick group a below h
acted_keeps world (doubt.Create name table) a below h = create_keeps world name table a h
acted_keeps world (doubt.Drop name) a below h = drop_keeps world name h

acted_rises : (world : World) (operation : Doubt) → Accepts world operation → world.next_table ≤ (acted world operation).next_table
acted_rises world (doubt.Change table group tick) a = omega arith
acted_rises world (doubt.Create name table) a = let next : table ≡ world.next_table = a.1 in omega (arith, next)
acted_rises world (doubt.Drop name) a = omega arith

after_keeps : (world : World) (operation : Option Doubt) → IfSome operation (Accepts world) → IfSome operation (IsBelow world.next_table) → IsWorld world
    → IsWorld (world_after world operation) × (world.next_table ≤ (world_after world operation).next_table)
after_keeps world None a below h = (h, omega arith)
after_keeps world (Some operation) a below h = (acted_keeps world operation a below h, acted_rises world operation a)

-- the tables that requests were told of, and those of changes in doubt, stay below the next number
told_stays : (tables : List (ℕ × Option ℕ)) (next later : ℕ) → next ≤ later → All (λ last. IfSome last.1 (λ told. told < next)) tables → All (λ last. IfSome last.1 (λ told. told < later)) tables
told_stays tables next later rises h = All-weaker (λ (last : ℕ × Option ℕ). IfSome last.1 (λ told. told < next)) (λ (last : ℕ × Option ℕ). IfSome last.1 (λ told. told < later)) (λ last. by_told last.1) tables h
  where
    by_told : (told : Option ℕ) → IfSome told (λ number. number < next) → IfSome told (λ number. number < later)
    by_told (Some number) k = let below : number < next = k in omega (arith, rises, below)
    by_told None k = tt

doubts_below : (doubts : List (ℕ × Doubt)) (next later : ℕ) → next ≤ later → EachDoubt (IsBelow next) doubts → EachDoubt (IsBelow later) doubts
doubts_below doubts next later rises h = All-weaker (λ (it : ℕ × Doubt). IsBelow next it.1) (λ (it : ℕ × Doubt). IsBelow later it.1) (λ it. by_doubt it.1) doubts h
  where
    by_doubt : (it : Doubt) → IsBelow next it → IsBelow later it
    by_doubt (doubt.Change table group tick) k = let below : table < next = k in omega (arith, rises, below)
    by_doubt (doubt.Create name table) k = tt
    by_doubt (doubt.Drop name) k = tt

-- ---- entries

-- what an allowed entry says was accepted is an operation on one of the tables
accepted_below : (state : State) (entry : Entry) → Allows state entry → HasTablesBelow state → IfSome (accepted state.doubts entry) (IsBelow state.world.next_table)
accepted_below state (entry.Change ask now table group (Ok tick)) allowed told = told_below state.world.next_table state.tables ask table told.0 allowed.0
accepted_below state (entry.Change ask now table group (Err refusal)) allowed told = tt
accepted_below state (entry.Create ask name (Some table)) allowed told = tt
accepted_below state (entry.Create ask name None) allowed told = tt
accepted_below state (entry.Drop ask name true) allowed told = tt
accepted_below state (entry.Drop ask name false) allowed told = tt
accepted_below state (entry.Settled ask true) allowed told = found_holds (IsBelow state.world.next_table) state.doubts ask told.1
accepted_below state (entry.Settled ask false) allowed told = tt
accepted_below state (entry.Bounds bounds) allowed told = tt
accepted_below state (entry.Resolve ask name table) allowed told = tt
accepted_below state (entry.Get ask table pk rk found) allowed told = tt
accepted_below state (entry.Page ask table options page) allowed told = tt
accepted_below state (entry.List ask from top names next) allowed told = tt
accepted_below state (entry.Denied ask why) allowed told = tt
accepted_below state (entry.Turn plan turn) allowed told = tt
accepted_below state (entry.Refused why plan) allowed told = tt
accepted_below state (entry.Maybe ask now what) allowed told = tt
accepted_below state entry.Stopped allowed told = tt

-- a change that comes into doubt is one of a table that its request was told of
begun_below : (state : State) (ask now : ℕ) (what : Doubt) → Allows state (entry.Maybe ask now what) → HasTablesBelow state → IsBelow state.world.next_table what
begun_below state ask now (doubt.Change table group tick) allowed told = told_below state.world.next_table state.tables ask table told.0 allowed.1.0
begun_below state ask now (doubt.Create name table) allowed told = tt
begun_below state ask now (doubt.Drop name) allowed told = tt

-- what requests are told, and what is in doubt, behind an entry
abbrev IsTold : World → State → Entry → Type 0
IsTold world state entry =
    All (λ last. IfSome last.1 (λ number. number < world.next_table)) (tables_after state.tables entry) × EachDoubt (IsBelow world.next_table) (doubts_after state.doubts entry)

told_after : (state : State) (entry : Entry) → Allows state entry → IsWorld state.world → HasTablesBelow state → IsTold state.world state entry
told_after state (entry.Resolve ask name table) allowed world told = (
  All-cons (λ (last : ℕ × Option ℕ). IfSome last.1 (λ number. number < state.world.next_table)) (ask, table) state.tables
      (subst (λ (found : Option ℕ). IfSome found (λ number. number < state.world.next_table)) (sym allowed.0) (named_below state.world.next_table state.world.names name world.names_below)) told.0,
  told.1,
)
told_after state (entry.Maybe ask now what) allowed world told =
    (told.0, All-cons (λ (it : ℕ × Doubt). IsBelow state.world.next_table it.1) (ask, what) state.doubts (begun_below state ask now what allowed told) told.1)
told_after state (entry.Settled ask stood) allowed world told =
    (told.0, All-filter (λ (it : ℕ × Doubt). not (it.0 == ask)) (λ it. IsBelow state.world.next_table it.1) state.doubts told.1)
told_after state (entry.Bounds bounds) allowed world told = told
told_after state (entry.Get ask table pk rk found) allowed world told = told
told_after state (entry.Page ask table options page) allowed world told = told
told_after state (entry.Change ask now table group result) allowed world told = told
told_after state (entry.Create ask name result) allowed world told = told
told_after state (entry.Drop ask name stood) allowed world told = told
told_after state (entry.List ask from top names next) allowed world told = told
told_after state (entry.Denied ask why) allowed world told = told
told_after state (entry.Turn plan turn) allowed world told = told
told_after state (entry.Refused why plan) allowed world told = told
told_after state entry.Stopped allowed world told = told

stays : (state : State) (entry : Entry) → Allows state entry → IfSome (accepted state.doubts entry) (Accepts state.world) → IsWorld state.world → HasTablesBelow state → IsWorld (after state entry).world × HasTablesBelow (after state entry)
stays state entry allowed accepts world told =
    let kept = after_keeps state.world (accepted state.doubts entry) accepts (accepted_below state entry allowed told) world in
    let known = told_after state entry allowed world told in
    let next = (after state entry).world.next_table in
    (kept.0, (told_stays (tables_after state.tables entry) state.world.next_table next kept.1 known.0, doubts_below (doubts_after state.doubts entry) state.world.next_table next kept.1 known.1))

pub worlds_stay_by : (opening : State) (history : List Entry) → IsWorld opening.world → HasTablesBelow opening → LegalSteps opening history → IsWorld (after_all opening history).world × HasTablesBelow (after_all opening history)
worlds_stay_by opening [] world told legal = (world, told)
worlds_stay_by opening (entry ∷ entries) world told legal =
    let next = stays opening entry legal.0.0 legal.0.1 world told in worlds_stay_by (after opening entry) entries next.0 next.1 legal.1

pub worlds_stay : (opening : State) (history : List Entry) → IsWorld opening.world → HasTablesBelow opening → Legal opening history → IsWorld (after_all opening history).world × HasTablesBelow (after_all opening history)
worlds_stay opening history world told legal = worlds_stay_by opening history world told (legal_steps opening history legal)
