-- What a change makes of each range.
use Rattle.std.specs.Prelude.{◌≡◌, ◌≢◌, ℕ, ◌≤◌, ◌⊎◌, List, [], ◌∷◌, All, AllPairs, IsTrue, Option, None}
use Rattle.tab_keys.specs.Spans.{Interval, has}
use Rattle.tab_keys.specs.declared.keys.Key.{Key}
use Rattle.tab_rows.specs.Rows.{RowView}
use Rattle.tab_rows.specs.Spans.{rows_in}
use Rattle.tab_history.specs.World.{World, Floors, floor_of}
use Rattle.tab_history.specs.Configurations.{MapRow, Configuration, row_with, next_tick_of}

-- the row that a change of these keys is routed to, by the first of them
abbrev pub routed : List MapRow → List Key → Option MapRow
routed rows [] = None
routed rows (key ∷ keys) = row_with rows key

-- no two rows have one range
abbrev pub HaveOwnRanges : List MapRow → Type 0
HaveOwnRanges rows = AllPairs (λ a b. a.range ≢ b.range) rows

-- the range of a row has these rows of the world, and this next tick
abbrev pub IsHeldAs : World → Configuration → MapRow → List RowView → ℕ → Type 0
IsHeldAs world config row rows next = (rows_in row.span world.rows ≡ rows) × (next_tick_of config.next_ticks row.range ≡ next)

-- in two worlds and configurations the range of a row has the same rows and next tick
pub record AreAlikeIn (row : MapRow) (world : World) (config : Configuration) (other : World) (other_config : Configuration) : Type 0 where
  pub rows : rows_in row.span world.rows ≡ rows_in row.span other.rows
  pub next_tick : next_tick_of config.next_ticks row.range ≡ next_tick_of other_config.next_ticks row.range

-- The next tick of a range serves for the floors of its keys: none is above it, and, but for 0, some floor is as great.
pub record IsNextTickIn (floors : Floors) (span : Interval) (next : ℕ) : Type 0 where
  pub above : (key : Key) → IsTrue (has span key) → floor_of floors key ≤ next
  pub reached : (next ≡ 0) ⊎ ((key : Key) × (next ≤ floor_of floors key))

-- and so that of each range
abbrev pub TicksServe : Floors → Configuration → Type 0
TicksServe floors config = All (λ row. IsNextTickIn floors row.span (next_tick_of config.next_ticks row.range)) config.rows
