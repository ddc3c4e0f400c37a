-- How the spans of a map's rows lie among all keys.
use Rattle.std.specs.Prelude.{◌≡◌, List, [], ◌∷◌, true, Contains, IsTrue, Some}
use Rattle.tab_keys.specs.Order.{bound_lt}
use Rattle.tab_keys.specs.Spans.{has}
use Rattle.tab_keys.specs.declared.keys.Key.{Key}
use Rattle.tab_keys.specs.declared.bounds.Bound.{Bound}
use Rattle.tab_keys.specs.declared.bounds.Bound.TheVariants.{At, End}
use Rattle.tab_history.specs.Configurations.{MapRow, row_with}

-- spans lie side by side from a bound to the end of all keys
abbrev pub AreTiles : Bound → List MapRow → Type 0
AreTiles lo [] = lo ≡ End
AreTiles lo (row ∷ rows) = (row.span.lo ≡ lo) × (bound_lt lo row.span.hi ≡ true) × AreTiles row.span.hi rows

-- they tile the space of keys
abbrev pub TileKeys : List MapRow → Type 0
TileKeys rows = AreTiles (At 0 []) rows

-- exactly one row has the key
pub record HasOneRow (rows : List MapRow) (key : Key) : Type 0 where
  pub row : MapRow
  pub found : row_with rows key ≡ Some row
  pub among : Contains rows row
  pub inside : IsTrue (has row.span key)
  pub only : (other : MapRow) → Contains rows other → IsTrue (has other.span key) → other ≡ row
