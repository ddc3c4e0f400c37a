-- The index of a key in a list of rows.
use Rattle.std.specs.Prelude.{◌≡◌, ℕ, suc, ◌≤◌, List, length, All, IsTrue, take, drop, slice_get, Some}
use Rattle.tab_keys.specs.Order.{key_lt, same_key}
use Rattle.tab_keys.specs.declared.keys.Key.{Key}
use Rattle.tab_rows.specs.Rows.{RowView}

-- the row at this index has the key, the rows before it are below the key, and those behind it above
pub record StandsAt (rows : List RowView) (key : Key) (index : ℕ) : Type 0 where
  pub row : RowView
  pub here : slice_get rows index ≡ Some row
  pub same : IsTrue (same_key row.key key)
  pub below : All (λ other. IsTrue (key_lt other.key key)) (take index rows)
  pub above : All (λ other. IsTrue (key_lt key other.key)) (drop (suc index) rows)

-- the rows before this index are below the key, and the others above
pub record BelongsAt (rows : List RowView) (key : Key) (index : ℕ) : Type 0 where
  pub within : index ≤ length rows
  pub below : All (λ other. IsTrue (key_lt other.key key)) (take index rows)
  pub above : All (λ other. IsTrue (key_lt key other.key)) (drop index rows)
