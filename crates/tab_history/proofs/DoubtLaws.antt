-- Each open doubt is one that may stand or not, whatever a legal history goes on with.
use Rattle.std.proofs.Common.{◌≡◌, ℕ, ◌+◌, ◌≤◌, ◌==◌, List, [], ◌∷◌, Bool, true, false, cond, not, get_or, AllPairs, refl, sym, ap, ◌∙◌, subst}
use Rattle.std.specs.Prelude.{Option, Some, None, Result, Ok, Err, IfSome, find, option_map, ⊤}
use Rattle.std.specs.Result.{result_unwrap_or}
use Rattle.std.proofs.lemmas.List.Elements.{All-nil, All-cons, All-contains, All-filter, All-head, All-tail}
use Rattle.std.proofs.lemmas.List.Kept.{AllPairs-cons, AllPairs-filter}
use Rattle.tab_keys.specs.Order.{same_key}
use Rattle.tab_keys.specs.Results.{◌>>=◌}
use Rattle.tab_keys.specs.declared.keys.Key.{Key}
use Rattle.tab_keys.proofs.OrderLaws.{same_key_equivalence}
use Rattle.tab_edm.specs.Entities.{EntityView}
use Rattle.tab_rows.specs.Rows.{RowView, row_at}
use Rattle.tab_rows.proofs.RowLaws.{row_at-with_row, row_at-without_row}
use Rattle.tab_rows.proofs.Lists.{AllPairs-head, AllPairs-tail}
use Rattle.tab_page.proofs.RisingLists.{AllPairs-nil, All-from_each}
use Rattle.tab_ops.specs.Groups.{ItemView, item_key}
use Rattle.tab_ops.specs.Changes.{outcome_of, settled, rows_after, group_outcome, group_keys}
use Rattle.tab_ops.specs.declared.groups.OpRefused.{OpRefused}
use Rattle.tab_ops.proofs.GroupLaws.{AreAlike}
use Rattle.tab_history.specs.World.{World, floor_of}
use Rattle.tab_history.specs.Doubts.{Spares, Clears, Accepts, doubt_of, without_doubt, EachDoubt, AreApart, AreOpen}
use Rattle.tab_history.specs.Legality.{State, accepted, acted, world_after, after, after_all, Allows, EachAllowed, Legal}
use Rattle.tab_history.specs.declared.entries.Entry.{Entry}
use Rattle.tab_history.specs.declared.entries.Entry.TheVariants as entry
use Rattle.tab_history.specs.declared.entries.Doubt.{Doubt}
use Rattle.tab_history.specs.declared.entries.Doubt.TheVariants as doubt
use Rattle.tab_history.proofs.GroupLaws.{All-items, group-other, settled-other, err_ok}
use Rattle.tab_history.proofs.FloorLaws.{row_at-alike, none_changed, floor_of-raised_all}

-- ---- a group over rows that are the same at its keys

settled_alike : (rows others : List RowView) (key other : Key) (tick : ℕ) (outcome : Option EntityView) → row_at rows other ≡ row_at others other
    → row_at (settled rows key tick outcome) other ≡ row_at (settled others key tick outcome) other
settled_alike rows others key other tick outcome h = by_test (same_key key other) refl
  where
    own : (outcome : Option EntityView) → row_at (settled rows key tick outcome) key ≡ row_at (settled others key tick outcome) key
    own (Some entity) =
        let put : RowView = record { key = key; entity = entity; tick = tick } in row_at-with_row rows put ∙ sym (row_at-with_row others put)
    own None = row_at-without_row rows key ∙ sym (row_at-without_row others key)

    by_test : (t : Bool) → same_key key other ≡ t → row_at (settled rows key tick outcome) other ≡ row_at (settled others key tick outcome) other
    by_test true e = sym (row_at-alike (settled rows key tick outcome) key other e) ∙ own outcome ∙ row_at-alike (settled others key tick outcome) key other e
    by_test false e = settled-other rows key other tick outcome e ∙ h ∙ sym (settled-other others key other tick outcome e)

-- it stands on the one where it stands on the other
stands_alike : (index : ℕ) (rows others : List RowView) (table tick : ℕ) (items : List ItemView) (later : List RowView) → AreAlike rows others table items
    → rows_after index rows table tick items ≡ Ok later → (left : List RowView) × (rows_after index others table tick items ≡ Ok left)
stands_alike index rows others table tick [] later alike h = (others, refl)
stands_alike index rows others table tick (item ∷ items) later alike h =
    by_outcome
    (λ outcome k. stands_alike (index + 1) (settled rows key tick outcome) (settled others key tick outcome) table tick items later
    (λ n d within. settled_alike rows others key (item_key table (get_or items n d)) tick outcome (All-tail (λ (other : ItemView). row_at rows (item_key table other) ≡ row_at others (item_key table other)) item items alike n d within)) k)
    (outcome_of index (row_at rows key) item.op) refl
  where
    key : Key
    key = item_key table item

    next : List RowView → Option EntityView → Result (List RowView) OpRefused
    next now outcome = rows_after (index + 1) (settled now key tick outcome) table tick items

    same : outcome_of index (row_at rows key) item.op ≡ outcome_of index (row_at others key) item.op
    same = ap (λ row. outcome_of index row item.op) (All-head (λ (other : ItemView). row_at rows (item_key table other) ≡ row_at others (item_key table other)) item items alike)

    by_outcome : ((outcome : Option EntityView) → next rows outcome ≡ Ok later → (left : List RowView) × (next others outcome ≡ Ok left))
        → (o : Result (Option EntityView) OpRefused) → outcome_of index (row_at rows key) item.op ≡ o → (left : List RowView) × (rows_after index others table tick (item ∷ items) ≡ Ok left)
    by_outcome rest (Ok outcome) e =
        let found = rest outcome (ap (λ r. r >>= next rows) (sym e) ∙ h) in (found.0, ap (λ r. r >>= next others) (sym same ∙ e) ∙ found.1)
    by_outcome rest (Err refusal) e = absurd (err_ok later refusal (Err refusal) refl (ap (λ r. r >>= next rows) (sym e) ∙ h))

-- ---- operations that are apart

-- what leaves the rows of another operation as they are is left as it is by that one
clears_back : (a b : Doubt) → Clears a b → Clears b a
clears_back (doubt.Change table group tick) (doubt.Change other items later) h =
    All-from_each (λ key. Spares key (doubt.Change other items later)) (group_keys table group)
    (λ key within. All-from_each (λ own. same_key own key ≡ false) (group_keys other items)
    (λ own inside. same_key_equivalence.symm own key
    ∙ All-contains (λ it. same_key it own ≡ false) (group_keys table group) key (All-contains (λ it. Spares it (doubt.Change table group tick)) (group_keys other items) own h inside) within))
clears_back (doubt.Change table group tick) (doubt.Create name number) h = All-from_each (λ key. ⊤) (group_keys table group) (λ key within. tt)
clears_back (doubt.Change table group tick) (doubt.Drop name) h = All-from_each (λ key. ⊤) (group_keys table group) (λ key within. tt)
clears_back (doubt.Create name number) (doubt.Change table group tick) h = tt
clears_back (doubt.Create name number) (doubt.Create other next) h = h
clears_back (doubt.Create name number) (doubt.Drop other) h = h
clears_back (doubt.Drop name) (doubt.Change table group tick) h = tt
clears_back (doubt.Drop name) (doubt.Create other next) h = h
clears_back (doubt.Drop name) (doubt.Drop other) h = h

change_kept : (world : World) (table tick : ℕ) (group : List ItemView) (other later : ℕ) (items : List ItemView) → Accepts world (doubt.Change table group tick)
    → Clears (doubt.Change table group tick) (doubt.Change other items later) → Accepts world (doubt.Change other items later) → Accepts (acted world (doubt.Change table group tick)) (doubt.Change other items later)
change_kept world table tick group other later items a clear h = (
  subst (λ result. (rows : List RowView) × (group_outcome (result_unwrap_or result world.rows) other later items ≡ Ok rows)) (sym a.0.1)
      (stands_alike 0 world.rows a.0.0 other later items h.0.0
      (All-from_each (λ (item : ItemView). row_at world.rows (item_key other item) ≡ row_at a.0.0 (item_key other item)) items
      (λ item within. sym (group-other world.rows a.0.0 table tick group (item_key other item) (All-items (λ key. Spares key (doubt.Change table group tick)) other items clear item within) a.0.1)))
      h.0.1),
  λ n d within.
      subst (λ floor. floor ≤ later)
      (sym (floor_of-raised_all world.floors (group_keys table group) tick (get_or (group_keys other items) n d)
      ∙ ap (λ t. cond t (tick + 1) (floor_of world.floors (get_or (group_keys other items) n d))) (none_changed (group_keys table group) (get_or (group_keys other items) n d) (clear n d within))))
      (h.1 n d within),
)

-- an operation that clears another leaves it acceptable
pub accepts_kept : (world : World) (operation other : Doubt) → Accepts world operation → Clears operation other → Accepts world other → Accepts (acted world operation) other
accepts_kept world (doubt.Change table group tick) (doubt.Change other items later) a clear h = change_kept world table tick group other later items a clear h
accepts_kept world (doubt.Change table group tick) (doubt.Create name number) a clear h = h
accepts_kept world (doubt.Change table group tick) (doubt.Drop name) a clear h = h
accepts_kept world (doubt.Create name number) (doubt.Change other items later) a clear h = h
accepts_kept world (doubt.Create name number) (doubt.Create other next) a clear h = absurd clear
accepts_kept world (doubt.Create name number) (doubt.Drop other) a clear h = absurd clear
accepts_kept world (doubt.Drop name) (doubt.Change other items later) a clear h = h
accepts_kept world (doubt.Drop name) (doubt.Create other next) a clear h = absurd clear
accepts_kept world (doubt.Drop name) (doubt.Drop other) a clear h = absurd clear

each_kept : (world : World) (operation : Doubt) (doubts : List (ℕ × Doubt)) → Accepts world operation → EachDoubt (Clears operation) doubts → EachDoubt (Accepts world) doubts → EachDoubt (Accepts (acted world operation)) doubts
each_kept world operation doubts a clear h = λ n d within. accepts_kept world operation (get_or doubts n d).1 a (clear n d within) (h n d within)

each_cleared : (operation : Doubt) (doubts : List (ℕ × Doubt)) → EachDoubt (λ it. Clears it operation) doubts → EachDoubt (Clears operation) doubts
each_cleared operation doubts h = λ n d within. clears_back (get_or doubts n d).1 operation (h n d within)

-- ---- where nothing is in doubt

pub no_doubts : (P : Doubt → Type 0) → EachDoubt P []
no_doubts P = All-nil (λ (it : ℕ × Doubt). P it.1)

pub none_open : (world : World) → AreOpen world []
none_open world = record { acceptable = no_doubts (Accepts world); apart = AllPairs-nil (λ (a b : ℕ × Doubt). AreApart a.1 b.1) }

-- ---- the doubt of a request

abbrev Apart : ℕ × Doubt → ℕ × Doubt → Type 0
Apart a b = AreApart a.1 b.1

-- what holds of each open doubt holds of the one that is found
pub found_holds : (P : Doubt → Type 0) (doubts : List (ℕ × Doubt)) (ask : ℕ) → EachDoubt P doubts → IfSome (doubt_of doubts ask) P
unfolding doubt_of
found_holds P [] ask h = tt
found_holds P (first ∷ doubts) ask h = by_test (found_holds P doubts ask (All-tail (λ (it : ℕ × Doubt). P it.1) first doubts h)) (first.0 == ask)
  where
    by_test : IfSome (option_map (λ (it : ℕ × Doubt). it.1) (find (λ it. it.0 == ask) doubts)) P → (t : Bool)
        → IfSome (option_map (λ (it : ℕ × Doubt). it.1) (cond t (Some first) (find (λ it. it.0 == ask) doubts))) P
    by_test rest true = All-head (λ (it : ℕ × Doubt). P it.1) first doubts h
    by_test rest false = rest

-- it is apart from those that are left
found_apart : (doubts : List (ℕ × Doubt)) (ask : ℕ) → AllPairs Apart doubts → IfSome (doubt_of doubts ask) (λ found. EachDoubt (AreApart found) (without_doubt doubts ask))
unfolding doubt_of
found_apart [] ask h = tt
found_apart (first ∷ doubts) ask h =
    by_test (found_apart doubts ask (AllPairs-tail Apart first doubts h)) (found_holds (AreApart first.1) doubts ask (AllPairs-head Apart first doubts h)) (first.0 == ask)
  where
    left : List (ℕ × Doubt)
    left = without_doubt doubts ask

    one_more : (found : Option Doubt) → IfSome found (λ it. EachDoubt (AreApart it) left) → IfSome found (AreApart first.1) → IfSome found (λ it. EachDoubt (AreApart it) (first ∷ left))
    one_more None rest apart = tt
    one_more (Some found) rest apart = All-cons (λ (it : ℕ × Doubt). AreApart found it.1) first left (apart.1, apart.0) rest

    by_test : IfSome (option_map (λ (it : ℕ × Doubt). it.1) (find (λ it. it.0 == ask) doubts)) (λ found. EachDoubt (AreApart found) left)
        → IfSome (option_map (λ (it : ℕ × Doubt). it.1) (find (λ it. it.0 == ask) doubts)) (AreApart first.1) → (t : Bool)
        → IfSome (option_map (λ (it : ℕ × Doubt). it.1) (cond t (Some first) (find (λ it. it.0 == ask) doubts))) (λ found. EachDoubt (AreApart found) (cond (not t) (first ∷ left) left))
    by_test rest apart true = All-filter (λ (it : ℕ × Doubt). not (it.0 == ask)) (λ it. AreApart first.1 it.1) doubts (AllPairs-head Apart first doubts h)
    by_test rest apart false = one_more (option_map (λ (it : ℕ × Doubt). it.1) (find (λ it. it.0 == ask) doubts)) rest apart

-- ---- entries

-- what an allowed entry says was accepted is what the world accepts
allowed_accepts : (state : State) (entry : Entry) → AreOpen state.world state.doubts → Allows state entry → IfSome (accepted state.doubts entry) (Accepts state.world)
allowed_accepts state (entry.Change ask now table group (Ok tick)) doubts h = (h.1, h.2.from_floors)
allowed_accepts state (entry.Change ask now table group (Err refusal)) doubts h = tt
allowed_accepts state (entry.Create ask name (Some table)) doubts h = (h.0, h.1)
allowed_accepts state (entry.Create ask name None) doubts h = tt
allowed_accepts state (entry.Drop ask name true) doubts h = sym h.0
allowed_accepts state (entry.Drop ask name false) doubts h = tt
allowed_accepts state (entry.Settled ask true) doubts h = found_holds (Accepts state.world) state.doubts ask doubts.acceptable
allowed_accepts state (entry.Settled ask false) doubts h = tt
allowed_accepts state (entry.Bounds bounds) doubts h = tt
allowed_accepts state (entry.Resolve ask name table) doubts h = tt
allowed_accepts state (entry.Get ask table pk rk found) doubts h = tt
allowed_accepts state (entry.Page ask table options page) doubts h = tt
allowed_accepts state (entry.List ask from top names next) doubts h = tt
allowed_accepts state (entry.Denied ask why) doubts h = tt
allowed_accepts state (entry.Turn plan turn) doubts h = tt
allowed_accepts state (entry.Refused why plan) doubts h = tt
allowed_accepts state (entry.Maybe ask now what) doubts h = tt
allowed_accepts state entry.Stopped doubts h = tt

-- an operation acts, and all doubts stay open
open_after_operation : (world : World) (operation : Doubt) (doubts : List (ℕ × Doubt)) → Accepts world operation → EachDoubt (λ it. Clears it operation) doubts → AreOpen world doubts → AreOpen (acted world operation) doubts
open_after_operation world operation doubts a clear h = record { acceptable = each_kept world operation doubts a (each_cleared operation doubts clear) h.acceptable; apart = h.apart }

-- a doubt ends, and stood or did not
open_after_settling : (world : World) (doubts : List (ℕ × Doubt)) (ask : ℕ) (stood : Option Doubt) → IfSome stood (Accepts world) → IfSome stood (λ found. EachDoubt (AreApart found) (without_doubt doubts ask)) → AreOpen world doubts
    → AreOpen (world_after world stood) (without_doubt doubts ask)
open_after_settling world doubts ask None a apart h = record {
  acceptable = All-filter (λ (it : ℕ × Doubt). not (it.0 == ask)) (λ it. Accepts world it.1) doubts h.acceptable;
  apart = AllPairs-filter Apart (λ (it : ℕ × Doubt). not (it.0 == ask)) doubts h.apart;
}
open_after_settling world doubts ask (Some found) a apart h = record {
  acceptable = each_kept world found (without_doubt doubts ask) a (λ n d within. (apart n d within).0)
      (All-filter (λ (it : ℕ × Doubt). not (it.0 == ask)) (λ it. Accepts world it.1) doubts h.acceptable);
  apart = AllPairs-filter Apart (λ (it : ℕ × Doubt). not (it.0 == ask)) doubts h.apart;
}

-- a doubt more is open
open_with : (world : World) (doubts : List (ℕ × Doubt)) (ask : ℕ) (what : Doubt) → Accepts world what → EachDoubt (λ it. Clears it what) doubts → AreOpen world doubts → AreOpen world ((ask, what) ∷ doubts)
open_with world doubts ask what a clear h = record {
  acceptable = All-cons (λ (it : ℕ × Doubt). Accepts world it.1) (ask, what) doubts a h.acceptable;
  apart = AllPairs-cons Apart (ask, what) doubts (λ n d within. (clears_back (get_or doubts n d).1 what (clear n d within), clear n d within)) h.apart;
}

open_after : (state : State) (entry : Entry) → AreOpen state.world state.doubts → Allows state entry → AreOpen (after state entry).world (after state entry).doubts
open_after state (entry.Change ask now table group (Ok tick)) doubts h =
    open_after_operation state.world (doubt.Change table group tick) state.doubts (h.1, h.2.from_floors) h.3 doubts
open_after state (entry.Change ask now table group (Err refusal)) doubts h = doubts
open_after state (entry.Create ask name (Some table)) doubts h = open_after_operation state.world (doubt.Create name table) state.doubts (h.0, h.1) h.2 doubts
open_after state (entry.Create ask name None) doubts h = doubts
open_after state (entry.Drop ask name true) doubts h = open_after_operation state.world (doubt.Drop name) state.doubts (sym h.0) h.1 doubts
open_after state (entry.Drop ask name false) doubts h = doubts
open_after state (entry.Settled ask true) doubts h =
    open_after_settling state.world state.doubts ask (doubt_of state.doubts ask) (found_holds (Accepts state.world) state.doubts ask doubts.acceptable) (found_apart state.doubts ask doubts.apart) doubts
open_after state (entry.Settled ask false) doubts h = open_after_settling state.world state.doubts ask None tt tt doubts
open_after state (entry.Maybe ask now what) doubts h = open_with state.world state.doubts ask what h.0 h.2 doubts
open_after state (entry.Bounds bounds) doubts h = doubts
open_after state (entry.Resolve ask name table) doubts h = doubts
open_after state (entry.Get ask table pk rk found) doubts h = doubts
open_after state (entry.Page ask table options page) doubts h = doubts
open_after state (entry.List ask from top names next) doubts h = doubts
open_after state (entry.Denied ask why) doubts h = doubts
open_after state (entry.Turn plan turn) doubts h = doubts
open_after state (entry.Refused why plan) doubts h = doubts
open_after state entry.Stopped doubts h = doubts

-- ---- histories

-- each entry is allowed, and what it says was accepted is what the world accepts
abbrev pub LegalSteps : State → List Entry → Type 0
LegalSteps state [] = ⊤
LegalSteps state (entry ∷ entries) = (Allows state entry × IfSome (accepted state.doubts entry) (Accepts state.world)) × LegalSteps (after state entry) entries

steps_from : (state : State) (entries : List Entry) → AreOpen state.world state.doubts → EachAllowed state entries → LegalSteps state entries
steps_from state [] doubts steps = tt
steps_from state (entry ∷ entries) doubts steps =
    ((steps.0, allowed_accepts state entry doubts steps.0), steps_from (after state entry) entries (open_after state entry doubts steps.0) steps.1)

pub legal_steps : (state : State) (entries : List Entry) → Legal state entries → LegalSteps state entries
legal_steps state entries legal = steps_from state entries legal.doubts legal.steps

open_through : (state : State) (entries : List Entry) → AreOpen state.world state.doubts → EachAllowed state entries → AreOpen (after_all state entries).world (after_all state entries).doubts
open_through state [] doubts steps = doubts
open_through state (entry ∷ entries) doubts steps = open_through (after state entry) entries (open_after state entry doubts steps.0) steps.1

-- each doubt that a legal history leaves open is one that may stand or not
pub doubts_stay : (state : State) (entries : List Entry) → Legal state entries → AreOpen (after_all state entries).world (after_all state entries).doubts
doubts_stay state entries legal = open_through state entries legal.doubts legal.steps
