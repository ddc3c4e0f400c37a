-- Operations on the world, and those of which it is open whether they stand.
use Rattle.std.specs.Prelude.{◌≡◌, ℕ, ◌≤◌, List, ◌==◌, ◌&&◌, not, true, false, find, filter, All, AllPairs, IsFalse, Option, None, is_some, option_map, Ok, ⊤}
use Rattle.tab_keys.specs.Order.{same_key, key_lt, is_before}
use Rattle.tab_keys.specs.declared.keys.Key.{Key}
use Rattle.tab_keys.specs.declared.bounds.Bound.{Bound}
use Rattle.tab_rows.specs.Rows.{RowView}
use Rattle.tab_ops.specs.Changes.{group_outcome, group_keys}
use Rattle.tab_history.specs.World.{World, table_of, floor_of}
use Rattle.tab_history.specs.declared.entries.Doubt.{Doubt}
use Rattle.tab_history.specs.declared.entries.Doubt.TheVariants as doubt

-- ---- what an operation writes

-- an operation leaves the row of a key as it is
abbrev pub Spares : Key → Doubt → Type 0
Spares key (doubt.Change table group tick) = All (λ other. same_key other key ≡ false) (group_keys table group)
Spares key (doubt.Create name table) = ⊤
Spares key (doubt.Drop name) = ⊤

-- an operation leaves the rows of these keys as they are
abbrev pub SparesKeys : List Key → Doubt → Type 0
SparesKeys keys operation = All (λ key. Spares key operation) keys

-- an operation writes no row from a page's start to its end
abbrev pub SparesPage : Key → Bound → Doubt → Type 0
SparesPage start end (doubt.Change table group tick) = All (λ key. IsFalse (not (key_lt key start) && is_before key end)) (group_keys table group)
SparesPage start end (doubt.Create name table) = ⊤
SparesPage start end (doubt.Drop name) = ⊤

-- an operation leaves the names of tables as they are
abbrev pub SparesNames : Doubt → Type 0
SparesNames (doubt.Change table group tick) = ⊤
SparesNames (doubt.Create name table) = ⊥
SparesNames (doubt.Drop name) = ⊥

-- an operation leaves all that another one is about as it is: the rows at its keys, or the names
abbrev pub Clears : Doubt → Doubt → Type 0
Clears operation (doubt.Change table group tick) = SparesKeys (group_keys table group) operation
Clears operation (doubt.Create name table) = SparesNames operation
Clears operation (doubt.Drop name) = SparesNames operation

-- ---- what the world accepts

-- an operation may act on the world: its group stands, with a tick from the floors of its keys on; the name is absent,
-- and the number is the next one; or the name is there
abbrev pub Accepts : World → Doubt → Type 0
Accepts world (doubt.Change table group tick) =
    ((rows : List RowView) × (group_outcome world.rows table tick group ≡ Ok rows)) × All (λ key. floor_of world.floors key ≤ tick) (group_keys table group)
Accepts world (doubt.Create name table) = (table_of world.names name ≡ None) × (table ≡ world.next_table)
Accepts world (doubt.Drop name) = is_some (table_of world.names name) ≡ true

-- ---- open doubts, each under the request that it belongs to, the last one first

-- the open doubt of a request
unfoldable pub doubt_of : List (ℕ × Doubt) → ℕ → Option Doubt
doubt_of doubts ask = option_map (λ it. it.1) (find (λ it. it.0 == ask) doubts)

-- the doubts that are left when that of a request has ended
abbrev pub without_doubt : List (ℕ × Doubt) → ℕ → List (ℕ × Doubt)
without_doubt doubts ask = filter (λ it. not (it.0 == ask)) doubts

-- what holds of each open doubt
abbrev pub EachDoubt : (Doubt → Type 0) → List (ℕ × Doubt) → Type 0
EachDoubt P doubts = All (λ it. P it.1) doubts

-- two operations are about different rows, or one is about rows and one about names
abbrev pub AreApart : Doubt → Doubt → Type 0
AreApart a b = Clears a b × Clears b a

-- the world may go on with each open doubt standing or not: it accepts each, whatever becomes of the others
pub record AreOpen (world : World) (doubts : List (ℕ × Doubt)) : Type 0 where
  pub acceptable : EachDoubt (Accepts world) doubts
  pub apart : AllPairs (λ a b. AreApart a.1 b.1) doubts
