-- Rows, and lists of rows in the order of their keys.
use Rattle.std.specs.Prelude.{◌≡◌, ℕ, ◌≤◌, List, ◌++◌, ◌∷◌, length, Bool, not, ◌||◌, filter, find, All, AllPairs, IsTrue, Option}
use Rattle.std.specs.Ordering.{is_lt, nat_cmp, ordering_then}
use Rattle.tab_keys.specs.KeyTexts.{units_of}
use Rattle.tab_keys.specs.Keys.{IsKey}
use Rattle.tab_keys.specs.Order.{text_cmp, key_lt, same_key}
use Rattle.tab_keys.specs.declared.keys.Key.{Key}
use Rattle.tab_edm.specs.Values.{IsProperty}
use Rattle.tab_edm.specs.Entities.{EntityView, IsEntity}
use Rattle.tab_edm.specs.declared.TheConstants.{GREATEST}

-- what contracts see of a row
pub record RowView : Type 0 where
  pub key : Key
  pub entity : EntityView
  pub tick : ℕ

-- the tick is a moment, and the entity was made for the row's keys
pub record IsRow (key : Key) (entity : EntityView) (tick : ℕ) : Type 0 where
  pub in_time : tick ≤ GREATEST
  pub pk_units : entity.pk_units ≡ length (units_of key.pk)
  pub rk_units : entity.rk_units ≡ length (units_of key.rk)

-- what each kept row of the program is: its entity was made for its key, within the limits of entities
pub record IsKept (kept : RowView) : Type 0 where
  pub key : IsKey kept.key
  pub row : IsRow kept.key kept.entity kept.tick
  pub entity : IsEntity kept.entity.pk_units kept.entity.rk_units kept.entity.properties
  pub properties : All IsProperty kept.entity.properties

-- what contracts see of ordered rows: the rows, and how many more can be put without memory
pub record RowsView : Type 0 where
  pub rows : List RowView
  pub spare : ℕ

-- the keys rise, so each stands once
abbrev pub AreRising : List RowView → Type 0
AreRising rows = AllPairs (λ a b. IsTrue (key_lt a.key b.key)) rows

-- the row at the key, where there is one
unfoldable pub row_at : List RowView → Key → Option RowView
row_at rows key = find (λ row. same_key row.key key) rows

-- the rows with this one at its key: those below it, it, and those above it
unfoldable pub with_row : List RowView → RowView → List RowView
with_row rows row = filter (λ other. key_lt other.key row.key) rows ++ row ∷ filter (λ other. key_lt row.key other.key) rows

-- the rows without the one at the key
unfoldable pub without_row : List RowView → Key → List RowView
without_row rows key = filter (λ other. key_lt other.key key || key_lt key other.key) rows

-- the rows that are not below the key
unfoldable pub rows_from : List RowView → Key → List RowView
rows_from rows key = filter (λ row. not (key_lt row.key key)) rows

-- the key lies above every key of the table and partition
abbrev pub is_past : ℕ → List ℕ → Key → Bool
is_past table pk key = is_lt (ordering_then (nat_cmp table key.table) (text_cmp pk key.pk))

-- the rows that lie above every key of the table and partition
unfoldable pub rows_past : List RowView → ℕ → List ℕ → List RowView
rows_past rows table pk = filter (λ row. is_past table pk row.key) rows
