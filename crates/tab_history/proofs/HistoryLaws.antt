-- Histories put together, and what stays through a legal one.
use Rattle.std.proofs.Common.{◌≡◌, ℕ, List, [], ◌∷◌, ◌++◌, refl, sym, ap, ◌∙◌, subst}
use Rattle.std.specs.Prelude.{Option, Some, None, IfSome, option_map, find, bytes_eq, ⊤}
use Rattle.std.specs.Result.{result_unwrap_or}
use Rattle.tab_keys.specs.TableNames.{folded}
use Rattle.tab_keys.specs.declared.keys.Key.{Key}
use Rattle.tab_rows.specs.Rows.{RowView, AreRising, row_at}
use Rattle.tab_history.specs.World.{World, Named, table_of}
use Rattle.tab_history.specs.Doubts.{Spares, Accepts}
use Rattle.tab_history.specs.Legality.{State, accepted, acted, world_after, after, after_all, EachAllowed, Legal}
use Rattle.tab_history.specs.Followed.{EachAccepted, IsUnchanged, Leaves, IsUnwritten}
use Rattle.tab_history.specs.declared.entries.Entry.{Entry}
use Rattle.tab_history.specs.declared.entries.Doubt.{Doubt}
use Rattle.tab_history.specs.declared.entries.Doubt.TheVariants as doubt
use Rattle.tab_history.proofs.GroupLaws.{group-rising, group-other}
use Rattle.tab_history.proofs.DoubtLaws.{LegalSteps}
use Rattle.tab_history.proofs.NameLaws.{table_of-with_other, table_of-without_other}

pub after_all-append : (state : State) (xs ys : List Entry) → after_all state (xs ++ ys) ≡ after_all (after_all state xs) ys
after_all-append state [] ys = refl
after_all-append state (x ∷ xs) ys = after_all-append (after state x) xs ys

pub each_append : (state : State) (xs ys : List Entry) → EachAllowed state xs → EachAllowed (after_all state xs) ys → EachAllowed state (xs ++ ys)
each_append state [] ys first rest = rest
each_append state (x ∷ xs) ys first rest = (first.0, each_append (after state x) xs ys first.1 rest)

-- a legal history goes on with entries that are allowed where it ended
pub Legal-more : (state : State) (xs ys : List Entry) → Legal state xs → EachAllowed (after_all state xs) ys → Legal state (xs ++ ys)
Legal-more state xs ys first rest = record { doubts = first.doubts; steps = each_append state xs ys first.steps rest }

-- the steps of a legal history are so in its two parts
pub steps_parts : (state : State) (xs ys : List Entry) → LegalSteps state (xs ++ ys) → LegalSteps state xs × LegalSteps (after_all state xs) ys
steps_parts state [] ys h = (tt, h)
steps_parts state (x ∷ xs) ys h = let rest = steps_parts (after state x) xs ys h.1 in ((h.0, rest.0), rest.1)

module _ (P : World → Type 0) (Q : Doubt → Type 0) (step : (world : World) (operation : Doubt) → Accepts world operation → Q operation → P world → P (acted world operation)) where
  kept_by : (world : World) (operation : Option Doubt) → IfSome operation (Accepts world) → IfSome operation Q → P world → P (world_after world operation)
  kept_by world None a q h = h
  kept_by world (Some operation) a q h = step world operation a q h

  -- what each accepted operation leaves true of the world is true after a legal history
  pub kept_through : (state : State) (entries : List Entry) → LegalSteps state entries → EachAccepted Q state entries → P state.world → P (after_all state entries).world
  kept_through state [] legal q h = h
  kept_through state (entry ∷ entries) legal q h =
      kept_through (after state entry) entries legal.1 q.1 (kept_by state.world (accepted state.doubts entry) legal.0.1 q.0 h)

any_operation : (state : State) (entries : List Entry) → EachAccepted (λ operation. ⊤) state entries
any_operation state [] = tt
any_operation state (entry ∷ entries) = (by_operation (accepted state.doubts entry), any_operation (after state entry) entries)
  where
    by_operation : (operation : Option Doubt) → IfSome operation (λ it. ⊤)
    by_operation None = tt
    by_operation (Some operation) = tt

-- so is what each operation leaves true
pub kept : (P : World → Type 0) → ((world : World) (operation : Doubt) → Accepts world operation → P world → P (acted world operation)) → (state : State) (entries : List Entry) → LegalSteps state entries → P state.world → P (after_all state entries).world
kept P step state entries legal h = kept_through P (λ operation. ⊤) (λ world operation a q k. step world operation a k) state entries legal (any_operation state entries) h

pub acted-rising : (world : World) (operation : Doubt) → Accepts world operation → AreRising world.rows → AreRising (acted world operation).rows
acted-rising world (doubt.Change table group tick) a h = subst (λ result. AreRising (result_unwrap_or result world.rows)) (sym a.0.1) (group-rising world.rows a.0.0 table tick group h a.0.1)
acted-rising world (doubt.Create name table) a h = h
acted-rising world (doubt.Drop name) a h = h

-- the rows of a world keep rising
pub rising_after : (state : State) (entries : List Entry) → LegalSteps state entries → AreRising state.world.rows → AreRising (after_all state entries).world.rows
rising_after = kept (λ world. AreRising world.rows) acted-rising

-- ---- what stays where nothing is written

pub accepted_append : (P : Doubt → Type 0) (state : State) (xs ys : List Entry) → EachAccepted P state (xs ++ ys) → EachAccepted P state xs × EachAccepted P (after_all state xs) ys
accepted_append P state [] ys h = (tt, h)
accepted_append P state (x ∷ xs) ys h = let rest = accepted_append P (after state x) xs ys h.1 in ((h.0, rest.0), rest.1)

acted-spared : (key : Key) (row : Option RowView) (world : World) (operation : Doubt) → Accepts world operation → Spares key operation → row_at world.rows key ≡ row → row_at (acted world operation).rows key ≡ row
acted-spared key row world (doubt.Change table group tick) a spared h =
    subst (λ result. row_at (result_unwrap_or result world.rows) key ≡ row) (sym a.0.1) (group-other world.rows a.0.0 table tick group key spared a.0.1 ∙ h)
acted-spared key row world (doubt.Create name table) a spared h = h
acted-spared key row world (doubt.Drop name) a spared h = h

-- a key that no operation changes keeps its row
pub unchanged_after : (key : Key) (state : State) (entries : List Entry) → LegalSteps state entries → IsUnchanged key state entries → row_at (after_all state entries).world.rows key ≡ row_at state.world.rows key
unchanged_after key state entries legal unchanged =
    kept_through (λ world. row_at world.rows key ≡ row_at state.world.rows key) (Spares key) (acted-spared key (row_at state.world.rows key)) state entries legal unchanged refl

-- so does a key that is unwritten
pub unwritten_row : (key : Key) (name : List ℕ) (state : State) (entries : List Entry) (row : Option RowView) → LegalSteps state entries → IsUnwritten key name state entries → row_at state.world.rows key ≡ row → row_at (after_all state entries).world.rows key ≡ row
unwritten_row key name state entries row legal unwritten h = kept_through (λ world. row_at world.rows key ≡ row) (Leaves key name) step state entries legal unwritten h
  where
    step : (world : World) (operation : Doubt) → Accepts world operation → Leaves key name operation → row_at world.rows key ≡ row → row_at (acted world operation).rows key ≡ row
    step world (doubt.Change table group tick) a leaves k = acted-spared key row world (doubt.Change table group tick) a leaves k
    step world (doubt.Create own table) a leaves k = k
    step world (doubt.Drop own) a leaves k = k

-- and its table's name keeps its number
pub unwritten_name : (key : Key) (name : List ℕ) (state : State) (entries : List Entry) (table : Option ℕ) → LegalSteps state entries → IsUnwritten key name state entries → table_of state.world.names name ≡ table → table_of (after_all state entries).world.names name ≡ table
unwritten_name key name state entries table legal unwritten h = kept_through (λ world. table_of world.names name ≡ table) (Leaves key name) step state entries legal unwritten h
  where
    step : (world : World) (operation : Doubt) → Accepts world operation → Leaves key name operation → table_of world.names name ≡ table → table_of (acted world operation).names name ≡ table
    step world (doubt.Change table group tick) a leaves k = k
    step world (doubt.Create own number) a leaves k = table_of-with_other world.names (record { spelling = own; table = number }) name leaves ∙ k
    step world (doubt.Drop own) a leaves k = table_of-without_other world.names own name leaves ∙ k

-- names that differ in case alone are those of one table
pub table_of-folded : (names : List Named) (a b : List ℕ) → folded a ≡ folded b → table_of names a ≡ table_of names b
unfolding table_of
table_of-folded names a b e = ap (λ folds. option_map (λ (named : Named). named.table) (find (λ named. bytes_eq (folded named.spelling) folds) names)) e
