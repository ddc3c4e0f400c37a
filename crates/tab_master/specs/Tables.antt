-- The tables of a store in memory.
use Rattle.std.specs.Prelude.{◌≡◌, ℕ, suc, ◌≤◌, List, length, map, take, drop, slice_get, Some, All, AllPairs, IsTrue, IsFalse}
use Rattle.std.specs.Ordering.{is_lt, is_eq}
use Rattle.tab_keys.specs.Order.{name_cmp}
use Rattle.tab_history.specs.World.{Named}

-- tables, and how many more there is room for
pub record TablesView : Type 0 where
  pub names : List Named
  pub spare : ℕ

-- they stand in the order of their names without case, and no two have one name
abbrev pub AreInOrder : List Named → Type 0
AreInOrder names = AllPairs (λ a b. IsTrue (is_lt (name_cmp a.spelling b.spelling))) names

-- their names
abbrev pub spellings : List Named → List (List ℕ)
spellings names = map (λ named. named.spelling) names

-- the table at this index has the name, whatever its case, and the others are below it or above it
pub record StandsAt (names : List Named) (name : List ℕ) (index : ℕ) : Type 0 where
  pub named : Named
  pub here : slice_get names index ≡ Some named
  pub same : IsTrue (is_eq (name_cmp named.spelling name))
  pub below : All (λ other. IsTrue (is_lt (name_cmp other.spelling name))) (take index names)
  pub above : All (λ other. IsTrue (is_lt (name_cmp name other.spelling))) (drop (suc index) names)

-- the names before this index are below this one, and no other
pub record BeginsAt (names : List Named) (name : List ℕ) (index : ℕ) : Type 0 where
  pub within : index ≤ length names
  pub below : All (λ other. IsTrue (is_lt (name_cmp other.spelling name))) (take index names)
  pub rest : All (λ other. IsFalse (is_lt (name_cmp other.spelling name))) (drop index names)
