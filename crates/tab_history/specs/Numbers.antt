-- The numbers of tables: none is given twice, so a dropped table's rows stay hidden.
use Rattle.std.specs.Prelude.{◌≡◌, ℕ, ◌<◌, ◌≤◌, List, ◌∷◌, ◌++◌, Option, All, IfSome, IsSomeAnd}
use Rattle.tab_keys.specs.TableNames.{folded}
use Rattle.tab_history.specs.World.{World}
use Rattle.tab_history.specs.Legality.{State, accepted, after_all}
use Rattle.tab_history.specs.declared.entries.Entry.{Entry}
use Rattle.tab_history.specs.declared.entries.Entry.TheVariants as entry
use Rattle.tab_history.specs.declared.entries.Doubt.{Doubt}
use Rattle.tab_history.specs.declared.entries.Doubt.TheVariants as doubt

-- the operation makes a table of this number
abbrev pub Makes : ℕ → Doubt → Type 0
Makes number (doubt.Change table group tick) = ⊥
Makes number (doubt.Create name table) = table ≡ number
Makes number (doubt.Drop name) = ⊥

-- of two tables that were made the later has the greater number
abbrev pub NumbersRise : State → List Entry → Type 0
NumbersRise opening history =
    (before between later : List Entry) (first second : Entry) (number next : ℕ) → history ≡ before ++ (first ∷ (between ++ (second ∷ later)))
    → IsSomeAnd (accepted (after_all opening before).doubts first) (Makes number)
    → IsSomeAnd (accepted (after_all opening (before ++ (first ∷ between))).doubts second) (Makes next) → number < next

-- the operation drops the table of the name
abbrev pub Drops : List ℕ → Doubt → Type 0
Drops name (doubt.Change table group tick) = ⊥
Drops name (doubt.Create own table) = ⊥
Drops name (doubt.Drop own) = folded own ≡ folded name

-- a number that was not given so far, so that no table has it and no row
pub record IsNew (world : World) (number : ℕ) : Type 0 where
  pub later : world.next_table ≤ number
  pub names : All (λ named. named.table < number) world.names
  pub rows : All (λ row. row.key.table < number) world.rows

-- a table that is made is new, and so has no row
abbrev pub MadeNew : State → List Entry → Type 0
MadeNew opening history =
    (before later : List Entry) (entry : Entry) (number : ℕ) → history ≡ before ++ (entry ∷ later) → IsSomeAnd (accepted (after_all opening before).doubts entry) (Makes number)
    → IsNew (after_all opening before).world number

-- a look-up of a name after its table was dropped finds none, or one that is new since
abbrev pub DropsHide : State → List Entry → Type 0
DropsHide opening history =
    (before between later : List Entry) (drop : Entry) (ask : ℕ) (name again : List ℕ) (table : Option ℕ)
    → history ≡ before ++ (drop ∷ (between ++ (entry.Resolve ask again table ∷ later))) → IsSomeAnd (accepted (after_all opening before).doubts drop) (Drops name) → folded again ≡ folded name
    → IfSome table (IsNew (after_all opening before).world)
