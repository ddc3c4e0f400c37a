-- What a legal history keeps of what it has come to.
use Rattle.std.specs.Prelude.{ℕ, ◌<◌, All, IfSome, ⊤}
use Rattle.tab_history.specs.Legality.{State}
use Rattle.tab_history.specs.Doubts.{EachDoubt}
use Rattle.tab_history.specs.declared.entries.Doubt.{Doubt}
use Rattle.tab_history.specs.declared.entries.Doubt.TheVariants as doubt

-- a change is of a table whose number is below this one
abbrev pub IsBelow : ℕ → Doubt → Type 0
IsBelow number (doubt.Change table group tick) = table < number
IsBelow number (doubt.Create name table) = ⊤
IsBelow number (doubt.Drop name) = ⊤

-- each table that a request was told of, and each of a change in doubt, has a number that was given
abbrev pub HasTablesBelow : State → Type 0
HasTablesBelow state = All (λ last. IfSome last.1 (λ table. table < state.world.next_table)) state.tables × EachDoubt (IsBelow state.world.next_table) state.doubts
