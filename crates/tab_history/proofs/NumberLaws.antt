-- No number of a table is given twice, and a dropped table's rows stay hidden.
use Rattle.std.proofs.Common.{◌≡◌, ℕ, ◌+◌, ◌≤◌, ◌<◌, List, [], ◌∷◌, ◌++◌, Bool, true, false, cond, not, All, refl, sym, ap, ◌∙◌, subst, arith}
use Rattle.std.specs.Prelude.{Option, Some, None, IfSome, IsSomeAnd, find, option_map, bytes_eq}
use Rattle.std.proofs.lemmas.Bool.{true≢false}
use Rattle.std.proofs.lemmas.List.Elements.{All-head, All-tail, All-filter, All-weaker, filter_passes}
use Rattle.tab_keys.specs.TableNames.{folded}
use Rattle.tab_history.specs.World.{World, Named, IsWorld, table_of, without_name}
use Rattle.tab_history.specs.Doubts.{Accepts}
use Rattle.tab_history.specs.Legality.{State, accepted, acted, world_after, after, after_all, Legal}
use Rattle.tab_history.specs.Kept.{HasTablesBelow}
use Rattle.tab_history.specs.Numbers.{Makes, NumbersRise, IsNew, MadeNew, Drops, DropsHide}
use Rattle.tab_history.specs.declared.entries.Entry.{Entry}
use Rattle.tab_history.specs.declared.entries.Entry.TheVariants as entry
use Rattle.tab_history.specs.declared.entries.Doubt.{Doubt}
use Rattle.tab_history.specs.declared.entries.Doubt.TheVariants as doubt
use Rattle.tab_history.proofs.NameLaws.{is_named, All-with_name}
use Rattle.tab_history.proofs.DoubtLaws.{LegalSteps, legal_steps}
use Rattle.tab_history.proofs.HistoryLaws.{kept, after_all-append, steps_parts}
use Rattle.tab_history.proofs.WorldLaws.{worlds_stay_by}

-- ---- the next number

acted-next : (n : ℕ) (world : World) (operation : Doubt) → Accepts world operation → n ≤ world.next_table → n ≤ (acted world operation).next_table
acted-next n world (doubt.Change table group tick) a h = h
acted-next n world (doubt.Create name table) a h = let next : table ≡ world.next_table = a.1 in omega (arith, next, h)
acted-next n world (doubt.Drop name) a h = h

-- the next number never falls
next_after : (n : ℕ) (state : State) (entries : List Entry) → LegalSteps state entries → n ≤ state.world.next_table → n ≤ (after_all state entries).world.next_table
next_after n = kept (λ world. n ≤ world.next_table) (acted-next n)

-- a table is made with the next number, which is one more behind it
made : (number : ℕ) (world : World) (operation : Option Doubt) → IfSome operation (Accepts world) → IsSomeAnd operation (Makes number) → (number ≡ world.next_table) × ((world_after world operation).next_table ≡ number + 1)
made number world None a makes = absurd makes
made number world (Some (doubt.Change table group tick)) a makes = absurd makes
made number world (Some (doubt.Create name table)) a makes = (sym makes ∙ a.1, ap (λ n. n + 1) makes)
made number world (Some (doubt.Drop name)) a makes = absurd makes

pub numbers_rise : (opening : State) (history : List Entry) → Legal opening history → NumbersRise opening history
numbers_rise opening history legal before between later first second number next e makes again =
    let outer = steps_parts opening before (first ∷ (between ++ (second ∷ later))) (subst (LegalSteps opening) e (legal_steps opening history legal)) in
    let state = after_all opening before in
    let inner = steps_parts (after state first) between (second ∷ later) outer.1.1 in
    let reached = after_all (after state first) between in
    let past : (after state first).world.next_table ≡ number + 1 = (made number state.world (accepted state.doubts first) outer.1.0.1 makes).1 in
    let rises : number + 1 ≤ reached.world.next_table = next_after (number + 1) (after state first) between inner.0 (omega (arith, past)) in
    let from : next ≡ reached.world.next_table = (made next reached.world (accepted reached.doubts second) inner.1.0.1
    (subst (λ (it : State). IsSomeAnd (accepted it.doubts second) (Makes next)) (after_all-append opening before (first ∷ between)) again)).0 in
    omega (arith, rises, from)

-- a number from the next one on is new
is_new : (world : World) (number : ℕ) → IsWorld world → world.next_table ≤ number → IsNew world number
is_new world number h low = record {
  later = low;
  names = All-weaker (λ named. named.table < world.next_table) (λ named. named.table < number) (λ named k. below named.table k) world.names h.names_below;
  rows = All-weaker (λ row. row.key.table < world.next_table) (λ row. row.key.table < number) (λ row k. below row.key.table k) world.rows h.rows_below;
}
  where
    below : (table : ℕ) → table < world.next_table → table < number
    below table k = omega (arith, low, k)

pub made_new : (opening : State) (history : List Entry) → IsWorld opening.world → HasTablesBelow opening → Legal opening history → MadeNew opening history
made_new opening history world told legal before later entry number e makes =
    let parts = steps_parts opening before (entry ∷ later) (subst (LegalSteps opening) e (legal_steps opening history legal)) in
    let state = after_all opening before in
    let next : number ≡ state.world.next_table = (made number state.world (accepted state.doubts entry) parts.1.0.1 makes).0 in
    is_new state.world number (worlds_stay_by opening before world told parts.0).0 (omega (arith, next))

-- ---- a name that was dropped

-- each table of the name has a number from here on
abbrev IsLater : ℕ → List ℕ → World → Type 0
IsLater n name world = (n ≤ world.next_table) × All (λ named. is_named name named ≡ true → n ≤ named.table) world.names

acted-later : (n : ℕ) (name : List ℕ) (world : World) (operation : Doubt) → Accepts world operation → IsLater n name world → IsLater n name (acted world operation)
unfolding without_name
acted-later n name world (doubt.Change table group tick) a h = h
acted-later n name world (doubt.Create own table) a h =
    let next : table ≡ world.next_table = a.1 in
    let low : n ≤ world.next_table = h.0 in (
      omega (arith, next, low),
      All-with_name (λ named. is_named name named ≡ true → n ≤ named.table) world.names (record { spelling = own; table = table }) h.1 (λ same. omega (arith, next, low)),
    )
acted-later n name world (doubt.Drop own) a h =
    (h.0, All-filter (λ named. not (is_named own named)) (λ named. is_named name named ≡ true → n ≤ named.table) world.names h.1)

not_both : (t : Bool) → not t ≡ true → t ≡ true → ⊥
not_both true h k = true≢false (sym h)
not_both false h k = true≢false (sym k)

-- where the name was just dropped there is none
dropped-later : (name : List ℕ) (world : World) (operation : Option Doubt) → IsSomeAnd operation (Drops name) → IsLater world.next_table name (world_after world operation)
unfolding without_name
dropped-later name world None drops = absurd drops
dropped-later name world (Some (doubt.Change table group tick)) drops = absurd drops
dropped-later name world (Some (doubt.Create own table)) drops = absurd drops
dropped-later name world (Some (doubt.Drop own)) drops = (
  omega arith,
  All-weaker (λ named. not (is_named own named) ≡ true) (λ named. is_named name named ≡ true → world.next_table ≤ named.table)
      (λ named left same. absurd (not_both (is_named own named) left (ap (λ folds. bytes_eq (folded named.spelling) folds) drops ∙ same)))
      (without_name world.names own) (filter_passes (λ named. not (is_named own named)) world.names),
)

-- a look-up finds one of the name
found_later : (n : ℕ) (name again : List ℕ) (names : List Named) → folded again ≡ folded name → All (λ named. is_named name named ≡ true → n ≤ named.table) names → IfSome (table_of names again) (λ number. n ≤ number)
unfolding table_of
found_later n name again [] folds h = tt
found_later n name again (first ∷ names) folds h =
    by_test (found_later n name again names folds (All-tail (λ (named : Named). is_named name named ≡ true → n ≤ named.table) first names h)) (is_named again first) refl
  where
    by_test : IfSome (option_map (λ (named : Named). named.table) (find (is_named again) names)) (λ number. n ≤ number) → (t : Bool) → is_named again first ≡ t
        → IfSome (option_map (λ (named : Named). named.table) (cond t (Some first) (find (is_named again) names))) (λ number. n ≤ number)
    by_test rest true e =
        All-head (λ (named : Named). is_named name named ≡ true → n ≤ named.table) first names h (ap (λ folds. bytes_eq (folded first.spelling) folds) (sym folds) ∙ e)
    by_test rest false e = rest

all_new : (world : World) (table : Option ℕ) → IsWorld world → IfSome table (λ number. world.next_table ≤ number) → IfSome table (IsNew world)
all_new world None h low = tt
all_new world (Some number) h low = is_new world number h low

pub drops_hide : (opening : State) (history : List Entry) → IsWorld opening.world → HasTablesBelow opening → Legal opening history → DropsHide opening history
drops_hide opening history world told legal before between later drop ask name again table e drops folds =
    let outer = steps_parts opening before (drop ∷ (between ++ (entry.Resolve ask again table ∷ later))) (subst (LegalSteps opening) e (legal_steps opening history legal)) in
    let state = after_all opening before in
    let inner = steps_parts (after state drop) between (entry.Resolve ask again table ∷ later) outer.1.1 in
    let reached = after_all (after state drop) between in
    let n = state.world.next_table in
    let is_later = kept (IsLater n name) (acted-later n name) (after state drop) between inner.0 (dropped-later name state.world (accepted state.doubts drop) drops) in
    all_new state.world table (worlds_stay_by opening before world told outer.0).0
    (subst (λ (found : Option ℕ). IfSome found (λ number. n ≤ number)) (sym inner.1.0.0.0) (found_later n name again reached.world.names folds is_later.1))
