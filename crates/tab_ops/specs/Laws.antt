-- What groups of operations do, whatever the rows.
use Rattle.std.specs.Prelude.{◌≡◌, ℕ, ◌⊎◌, List, Contains, Option, Some, None, Ok, Err, slice_get}
use Rattle.std.specs.Option.{option_or}
use Rattle.tab_keys.specs.declared.keys.Key.{Key}
use Rattle.tab_edm.specs.Entities.{EntityView, IsRising, value_of}
use Rattle.tab_rows.specs.Rows.{RowView, row_at}
use Rattle.tab_ops.specs.Groups.{ItemView, item_key}
use Rattle.tab_ops.specs.declared.groups.OpRefused.{OpRefused}
use Rattle.tab_ops.specs.declared.groups.OpRefused.TheVariants.{TooMany, TooLarge}
use Rattle.tab_ops.specs.Changes.{outcome_of, group_keys}

-- what stands at a key after it was made this, with this tick
abbrev pub row_made : Key → ℕ → Option EntityView → Option RowView
row_made key tick (Some entity) = Some (record { key = key; entity = entity; tick = tick })
row_made key tick None = None

-- a row stood before, or has the group's tick and one of its keys
abbrev pub IsKeptOrPut : List RowView → ℕ → ℕ → List ItemView → RowView → Type 0
IsKeptOrPut rows table tick group row = Contains rows row ⊎ ((row.tick ≡ tick) × Contains (group_keys table group) row.key)

-- the item at this index made what stands at its key of the row that stood there before the whole group
pub record SawRowsBefore (rows after : List RowView) (table tick index : ℕ) (item : ItemView) : Type 0 where
  pub outcome : Option EntityView
  pub is : outcome_of index (row_at rows (item_key table item)) item.op ≡ Ok outcome
  pub stands : row_at after (item_key table item) ≡ row_made (item_key table item) tick outcome

-- an item of the group is refused so, and acts on these rows
pub record IsRefusedByItem (rows : List RowView) (table : ℕ) (group : List ItemView) (why : OpRefused) : Type 0 where
  pub index : ℕ
  pub item : ItemView
  pub here : slice_get group index ≡ Some item
  pub refused : outcome_of index (row_at rows (item_key table item)) item.op ≡ Err why

-- ---- merges

-- under each name stands the given value, where one is given, and else the kept one; the names rise
pub record IsMergeOf (kept given : EntityView) (entity : EntityView) : Type 0 where
  pub values : (name : List ℕ) → value_of name entity.properties ≡ option_or (value_of name given.properties) (value_of name kept.properties)
  pub rising : IsRising entity.properties

-- what an accepted merge makes
pub record MakesMerge (index : ℕ) (kept given : EntityView) (outcome : Option EntityView) : Type 0 where
  pub entity : EntityView
  pub is : outcome ≡ Some entity
  pub merges : IsMergeOf kept given entity

-- the merge at this index has too many properties, or is too large
abbrev pub IsPastLimits : ℕ → OpRefused → Type 0
IsPastLimits index why = (why ≡ TooMany index) ⊎ (why ≡ TooLarge index)
