-- What operations and groups of them make of rows.
use Rattle.std.specs.Prelude.{◌≡◌, ℕ, ◌+◌, List, [], ◌∷◌, ◌++◌, length, map, filter, Bool, true, ◌==◌, nat_lt, if◌then◌else◌, Option, Some, None, Result, Ok, Err, ⊤, ◌≤◌}
use Rattle.tab_keys.specs.Results.{◌>>=◌}
use Rattle.tab_keys.specs.declared.keys.Key.{Key}
use Rattle.tab_edm.specs.Entities.{EntityView, name_lt, entity_size}
use Rattle.tab_edm.specs.declared.values.Property.{Property}
use Rattle.tab_edm.specs.declared.TheConstants.{GREATEST}
use Rattle.tab_edm.specs.declared.entities.TheConstants.{MOST_PROPERTIES, MOST_SIZE}
use Rattle.tab_rows.specs.Rows.{RowView, row_at, with_row, without_row}
use Rattle.tab_rows.specs.declared.changes.Change.{Change}
use Rattle.tab_rows.specs.declared.changes.Change.TheVariants.{Put, Take}
use Rattle.tab_ops.specs.Groups.{ItemView, item_key}
use Rattle.tab_ops.specs.declared.ops.Match.{Match}
use Rattle.tab_ops.specs.declared.ops.Match.TheVariants.{Any, Tick}
use Rattle.tab_ops.specs.declared.ops.Op.{Op}
use Rattle.tab_ops.specs.declared.ops.Op.TheVariants.{Insert, Update, Replace, Merge, MergeIn, Delete}
use Rattle.tab_ops.specs.declared.groups.OpRefused.{OpRefused}
use Rattle.tab_ops.specs.declared.groups.OpRefused.TheVariants.{AlreadyThere, NotThere, Condition, TooMany, TooLarge, Memory}

-- ---- one operation

-- a kept row with this tick is the one that a condition wants
abbrev pub meets : Match → ℕ → Bool
meets Any kept = true
meets (Tick tick) kept = tick == kept

-- properties in rising order of their names with this one: those before it, it, and those behind it
unfoldable pub with_property : List Property → Property → List Property
with_property kept property = filter (λ other. name_lt other property) kept ++ property ∷ filter (λ other. name_lt property other) kept

-- the given properties replace or join the kept ones
abbrev pub merged : List Property → List Property → List Property
merged kept [] = kept
merged kept (property ∷ given) = merged (with_property kept property) given

-- an entity within the limits, or the refusal of the operation at this index
abbrev pub within_limits : ℕ → EntityView → Result (Option EntityView) OpRefused
within_limits index entity =
    if nat_lt MOST_PROPERTIES (length entity.properties) then Err (TooMany index)
    else (if nat_lt MOST_SIZE (entity_size entity.pk_units entity.rk_units entity.properties) then Err (TooLarge index)
    else Ok (Some entity))

-- what a merge of an entity into a kept one makes
unfoldable pub merge_outcome : ℕ → EntityView → EntityView → Result (Option EntityView) OpRefused
merge_outcome index kept given = within_limits index (record given { properties = merged kept.properties given.properties })

-- the outcome, where the kept row is the one that the condition wants
abbrev pub on_condition : ℕ → Match → ℕ → Result (Option EntityView) OpRefused → Result (Option EntityView) OpRefused
on_condition index condition kept outcome = if meets condition kept then outcome else Err (Condition index kept)

-- what an operation, the one at this index of its group, makes of a row or its absence: a new entity, absence, or
-- a refusal
abbrev pub outcome_of : ℕ → Option RowView → Op → Result (Option EntityView) OpRefused
outcome_of index None (Insert entity) = Ok (Some entity)
outcome_of index None (Update entity condition) = Err (NotThere index)
outcome_of index None (Replace entity) = Ok (Some entity)
outcome_of index None (Merge entity condition) = Err (NotThere index)
outcome_of index None (MergeIn entity) = Ok (Some entity)
outcome_of index None (Delete condition) = Err (NotThere index)
outcome_of index (Some row) (Insert entity) = Err (AlreadyThere index)
outcome_of index (Some row) (Update entity condition) = on_condition index condition row.tick (Ok (Some entity))
outcome_of index (Some row) (Replace entity) = Ok (Some entity)
outcome_of index (Some row) (Merge entity condition) = on_condition index condition row.tick (merge_outcome index row.entity entity)
outcome_of index (Some row) (MergeIn entity) = merge_outcome index row.entity entity
outcome_of index (Some row) (Delete condition) = on_condition index condition row.tick (Ok None)

-- ---- groups

-- the rows with what an operation made of one of them
abbrev pub settled : List RowView → Key → ℕ → Option EntityView → List RowView
settled rows key tick (Some entity) = with_row rows (record { key = key; entity = entity; tick = tick })
settled rows key tick None = without_row rows key

-- The rows after the items, the first of which has this index in its group, acted in their order with one tick, or
-- the first refusal.
abbrev pub rows_after : ℕ → List RowView → ℕ → ℕ → List ItemView → Result (List RowView) OpRefused
rows_after index rows table tick [] = Ok rows
rows_after index rows table tick (item ∷ items) =
    outcome_of index (row_at rows (item_key table item)) item.op
    >>= λ outcome. rows_after (index + 1) (settled rows (item_key table item) tick outcome) table tick items

-- the rows after a group, or its first refusal
abbrev pub group_outcome : List RowView → ℕ → ℕ → List ItemView → Result (List RowView) OpRefused
group_outcome rows table tick group = rows_after 0 rows table tick group

-- the keys that a group changes
abbrev pub group_keys : ℕ → List ItemView → List Key
group_keys table group = map (item_key table) group

-- ---- changes

-- the rows with one change made
abbrev pub changed : List RowView → Change → List RowView
changed rows (Put row) = with_row rows row
changed rows (Take key) = without_row rows key

-- the rows with changes made one after another
abbrev pub applied : List RowView → List Change → List RowView
applied rows [] = rows
applied rows (change ∷ changes) = applied (changed rows change) changes

-- the change that makes this of the row at a key
abbrev pub change_to : Key → ℕ → Option EntityView → Change
change_to key tick (Some entity) = Put (record { key = key; entity = entity; tick = tick })
change_to key tick None = Take key

abbrev pub as_change : Key → ℕ → Result (Option EntityView) OpRefused → Result Change OpRefused
as_change key tick (Ok outcome) = Ok (change_to key tick outcome)
as_change key tick (Err refusal) = Err refusal

-- the change that an item, the one at this index of its group, makes of rows, or its refusal
abbrev pub change_of : ℕ → List RowView → ℕ → ℕ → ItemView → Result Change OpRefused
change_of index rows table tick item =
    as_change (item_key table item) tick (outcome_of index (row_at rows (item_key table item)) item.op)

-- the key of the row that a change is of
abbrev pub change_key : Change → Key
change_key (Put row) = row.key
change_key (Take key) = key

-- a row that is put has this tick
abbrev pub HasTick : ℕ → Change → Type 0
HasTick tick (Put row) = row.tick ≡ tick
HasTick tick (Take key) = ⊤

-- ---- refusals

-- the kept tick that a refusal names is a moment
abbrev pub IsTimely : OpRefused → Type 0
IsTimely (AlreadyThere index) = ⊤
IsTimely (NotThere index) = ⊤
IsTimely (Condition index tick) = tick ≤ GREATEST
IsTimely (TooMany index) = ⊤
IsTimely (TooLarge index) = ⊤
IsTimely Memory = ⊤
