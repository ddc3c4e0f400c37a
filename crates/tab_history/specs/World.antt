-- The world: one ordered map of rows, the tables' names, and the floor of each key.
use Rattle.std.specs.Prelude.{◌≡◌, ℕ, ◌+◌, ◌<◌, ◌≤◌, ◌⊎◌, List, [], ◌∷◌, ◌++◌, map, filter, find, All, AllPairs, IsTrue, IsFalse, ◌==◌, bytes_eq, Bool, true, not, if◌then◌else◌, Option, Some, None, option_map, unwrap_or}
use Rattle.std.specs.Ordering.{is_lt}
use Rattle.tab_keys.specs.Order.{same_key, name_cmp}
use Rattle.tab_keys.specs.TableNames.{folded}
use Rattle.tab_keys.specs.Spans.{Interval, has}
use Rattle.tab_keys.specs.declared.keys.Key.{Key}
use Rattle.tab_edm.specs.declared.TheConstants.{GREATEST}
use Rattle.tab_rows.specs.Rows.{RowView, AreRising}

-- a table: its name as it was spelled, and its number
pub record Named : Type 0 where
  pub spelling : List ℕ
  pub table : ℕ

-- a number for each key: that of its last change, and otherwise that of its span at the opening
pub record Floors : Type 0 where
  pub opening : List (Interval × ℕ)
  pub later : List (Key × ℕ)

pub record World : Type 0 where
  pub names : List Named
  pub next_table : ℕ
  pub rows : List RowView
  pub floors : Floors

-- the table of a name, whatever its case
unfoldable pub table_of : List Named → List ℕ → Option ℕ
table_of names name = option_map (λ named. named.table) (find (λ named. bytes_eq (folded named.spelling) (folded name)) names)

-- the names with one more, in the order of names without their case
unfoldable pub with_name : List Named → Named → List Named
with_name [] named = named ∷ []
with_name (first ∷ names) named = if is_lt (name_cmp named.spelling first.spelling) then named ∷ first ∷ names else first ∷ with_name names named

-- the names without this one, whatever its case
unfoldable pub without_name : List Named → List ℕ → List Named
without_name names name = filter (λ named. not (bytes_eq (folded named.spelling) (folded name))) names

-- a name is not below the one at which a list of names begins
abbrev pub is_from : Option (List ℕ) → List ℕ → Bool
is_from None name = true
is_from (Some after) name = not (is_lt (name_cmp name after))

-- the spellings of the names from one on
unfoldable pub names_from : List Named → Option (List ℕ) → List (List ℕ)
names_from names after = filter (is_from after) (map (λ named. named.spelling) names)

-- the floor of a key, the least tick that its next change may have; the last change is the first of the list
unfoldable pub floor_of : Floors → Key → ℕ
floor_of floors key =
    unwrap_or (option_map (λ change. change.1) (find (λ change. same_key change.0 key) floors.later))
    (unwrap_or (option_map (λ part. part.1) (find (λ part. has part.0 key) floors.opening)) 0)

-- each of the keys changed with this tick
unfoldable pub raised : Floors → List Key → ℕ → Floors
raised floors keys tick = record floors { later = map (λ key. (key, tick + 1)) keys ++ floors.later }

-- the tick that a change of these keys may have at a moment: not before the moment nor below a floor of its keys,
-- not past both the moment and every floor, and a moment of the calendar
pub record MayHaveTick (floors : Floors) (keys : List Key) (now tick : ℕ) : Type 0 where
  pub from_now : now ≤ tick
  pub from_floors : All (λ key. floor_of floors key ≤ tick) keys
  pub not_ahead : (tick ≤ now) ⊎ ((key : Key) × (tick ≤ floor_of floors key))
  pub in_time : tick ≤ GREATEST

-- one number that serves for all floors: none is above it, and, but for 0, one is as great
pub record IsNextTick (floors : Floors) (next : ℕ) : Type 0 where
  pub above : (key : Key) → floor_of floors key ≤ next
  pub reached : (next ≡ 0) ⊎ ((key : Key) × (next ≤ floor_of floors key))

-- what every world keeps
pub record IsWorld (world : World) : Type 0 where
  pub names_rise : AllPairs (λ a b. IsTrue (is_lt (name_cmp a.spelling b.spelling))) world.names
  pub numbers_differ : AllPairs (λ a b. IsFalse (a.table == b.table)) world.names
  pub names_below : All (λ named. named.table < world.next_table) world.names
  pub rows_rise : AreRising world.rows
  pub rows_below : All (λ row. row.key.table < world.next_table) world.rows
  pub ticks_below : All (λ row. row.tick < floor_of world.floors row.key) world.rows
