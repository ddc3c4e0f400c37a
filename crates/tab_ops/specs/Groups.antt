-- Operations on rows, and groups of them.
use Rattle.std.specs.Prelude.{◌≡◌, ℕ, ◌+◌, List, [], ◌∷◌, length, Bool, ◌&&◌, nat_lt, bytes_eq, AllPairs, IsFalse, Option, Some, None, if◌then◌else◌, Result, Ok, Err, ⊤}
use Rattle.std.specs.List.{list_any}
use Rattle.std.specs.Option.{option_or}
use Rattle.std.specs.Ordering.{is_eq}
use Rattle.tab_keys.specs.Order.{text_cmp}
use Rattle.tab_keys.specs.TableNames.{folded}
use Rattle.tab_keys.specs.declared.keys.Key.{Key}
use Rattle.tab_ops.specs.declared.TheConstants.{MOST_ITEMS}
use Rattle.tab_ops.specs.declared.ops.Op.{Op}
use Rattle.tab_ops.specs.declared.ops.Op.TheVariants.{Insert, Update, Replace, Merge, MergeIn, Delete}
use Rattle.tab_ops.specs.declared.groups.GroupRefused.{GroupRefused}
use Rattle.tab_ops.specs.declared.groups.GroupRefused.TheVariants.{Empty, TooMany, MixedPartitions, DoubledRow}

-- what contracts see of an operation with the row that it acts on
pub record ItemView : Type 0 where
  pub name : List ℕ
  pub pk : List ℕ
  pub rk : List ℕ
  pub op : Op

-- the operation's entity, where it has one, was made for keys of these lengths in UTF-16 code units
abbrev pub IsMadeFor : ℕ → ℕ → Op → Type 0
IsMadeFor pk_units rk_units (Insert entity) = (entity.pk_units ≡ pk_units) × (entity.rk_units ≡ rk_units)
IsMadeFor pk_units rk_units (Update entity condition) = (entity.pk_units ≡ pk_units) × (entity.rk_units ≡ rk_units)
IsMadeFor pk_units rk_units (Replace entity) = (entity.pk_units ≡ pk_units) × (entity.rk_units ≡ rk_units)
IsMadeFor pk_units rk_units (Merge entity condition) = (entity.pk_units ≡ pk_units) × (entity.rk_units ≡ rk_units)
IsMadeFor pk_units rk_units (MergeIn entity) = (entity.pk_units ≡ pk_units) × (entity.rk_units ≡ rk_units)
IsMadeFor pk_units rk_units (Delete condition) = ⊤

-- the key of the item's row in a table
abbrev pub item_key : ℕ → ItemView → Key
item_key table item = record { table = table; pk = item.pk; rk = item.rk }

-- ---- groups

-- an item in the table and partition of another
abbrev pub is_beside : ItemView → ItemView → Bool
is_beside first item = bytes_eq (folded item.name) (folded first.name) && bytes_eq item.pk first.pk

-- the index of the first item that is in another table or partition; the first of them has this index in its group
abbrev pub first_elsewhere : ℕ → ItemView → List ItemView → Option GroupRefused
first_elsewhere index first [] = None
first_elsewhere index first (item ∷ items) =
    if is_beside first item then first_elsewhere (index + 1) first items else Some (MixedPartitions index)

-- the index of the first item whose row key stood before, among these or the items before it
abbrev pub first_doubled : ℕ → List (List ℕ) → List ItemView → Option GroupRefused
first_doubled index before [] = None
first_doubled index before (item ∷ items) =
    if list_any (λ rk. bytes_eq rk item.rk) before then Some (DoubledRow index) else first_doubled (index + 1) (item.rk ∷ before) items

-- the most operations of a group
abbrev pub most_items : ℕ
most_items = MOST_ITEMS

-- why operations make no group
unfoldable pub group_refusal : List ItemView → Option GroupRefused
group_refusal [] = Some Empty
group_refusal (first ∷ items) =
    if nat_lt most_items (length (first ∷ items)) then Some TooMany
    else option_or (first_elsewhere 0 first (first ∷ items)) (first_doubled 0 [] (first ∷ items))

-- the items, or why they are refused
abbrev pub items_or_refusal : List ItemView → Option GroupRefused → Result (List ItemView) GroupRefused
items_or_refusal items None = Ok items
items_or_refusal items (Some why) = Err why

-- the group of operations, or why they make none
abbrev pub grouped : List ItemView → Result (List ItemView) GroupRefused
grouped items = items_or_refusal items (group_refusal items)

-- no two items have one row key
abbrev pub AreApart : List ItemView → Type 0
AreApart items = AllPairs (λ a b. IsFalse (is_eq (text_cmp a.rk b.rk))) items

-- operations that make a group
pub record IsGroup (items : List ItemView) : Type 0 where
  pub allowed : group_refusal items ≡ None
  pub apart : AreApart items
