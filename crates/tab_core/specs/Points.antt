-- What the disks of each store spell for a course, and what a yard of disks holds.
use Rattle.std.specs.Prelude.{◌≡◌, ℕ, zero, suc, ◌+◌, ◌*◌, ◌⊎◌, List, [], ◌∷◌, length, slice_get, All, Any, IfSome, IsSomeAnd, Some, true}
use Rattle.tab_outside.specs.Disks.{Watch}
use Rattle.tab_outside.specs.Pairs.{Now}
use Rattle.tab_rows.specs.Spans.{rows_in}
use Rattle.tab_codec.specs.declared.frames.Frame.{Frame}
use Rattle.tab_journal.specs.Areas.{Spells}
use Rattle.tab_history.specs.World.{World}
use Rattle.tab_history.specs.Legality.{State, acted}
use Rattle.tab_history.specs.Configurations.{MapRow, Configuration, next_tick_of, ticked}
use Rattle.tab_server.specs.Replays.{SpelledRange, spelled_range}
use Rattle.tab_master.specs.Spelled.{spelled_map, spelled_names}
use Rattle.tab_core.specs.Courses.{Course, IsCourse, MayCommit, committed_by}

-- ---- the map, store 0

-- the frames spell the rows, and the numbers from which an opening goes on
abbrev pub SpellsMap : Configuration → List Frame → Type 0
SpellsMap config frames = spelled_map frames ≡ Some (record { next_range = config.kept_range; next_plan = config.kept_plan; rows = config.rows })

-- with the commit in doubt or without it
abbrev pub MapPoint : Course → List Frame → Type 0
MapPoint course frames = SpellsMap course.config frames ⊎ IsSomeAnd course.past.commit (λ plan. SpellsMap (committed_by course.config plan) frames)

-- ---- the names, store 1

abbrev pub SpellsNames : World → List Frame → Type 0
SpellsNames world frames = spelled_names frames ≡ Some (record { next_table = world.next_table; names = world.names })

-- with an operation in doubt or without one
abbrev pub NamesPoint : Course → List Frame → Type 0
NamesPoint course frames = SpellsNames course.past.world frames ⊎ Any (λ doubt. SpellsNames (acted course.past.world doubt.1) frames) course.past.doubts

-- ---- server s, store 2 + s

-- a row's range as its server holds it: the world's rows in its span, and its next tick
unfoldable pub held_in : World → Configuration → MapRow → SpelledRange
held_in world config row = record {
  range = row.range;
  span = row.span;
  rows = rows_in row.span world.rows;
  next_tick = next_tick_of config.next_ticks row.range;
  is_whole = true;
}

abbrev pub SpellsRange : World → Configuration → MapRow → List Frame → Type 0
SpellsRange world config row frames = spelled_range frames row.range ≡ Some (held_in world config row)

-- with an operation in doubt or without one
abbrev pub RangePoint : State → Configuration → MapRow → List Frame → Type 0
RangePoint past config row frames =
    SpellsRange past.world config row frames ⊎ Any (λ doubt. SpellsRange (acted past.world doubt.1) (ticked config (Some doubt.1)) row frames) past.doubts

-- each range that the configuration gives to the server; what the frames spell besides counts for nothing
abbrev pub RangesPoint : State → Configuration → ℕ → List Frame → Type 0
RangesPoint past config server frames = All (λ row. row.server ≡ server → RangePoint past config row frames) config.rows

-- and so where a commit is in doubt each that it would give
abbrev pub ServerPoint : Course → ℕ → List Frame → Type 0
ServerPoint course server frames =
    RangesPoint course.past course.config server frames × IfSome course.past.commit (λ plan. RangesPoint course.past (committed_by course.config plan) server frames)

-- ---- all stores

-- the kind of store k, and its server's number
abbrev pub kind_of : ℕ → ℕ
kind_of zero = 0
kind_of (suc zero) = 1
kind_of (suc (suc server)) = 2

abbrev pub number_of : ℕ → ℕ
number_of zero = 0
number_of (suc zero) = 0
number_of (suc (suc server)) = server

-- what the frames of store k are to spell
abbrev pub Point : Course → ℕ → List Frame → Type 0
Point course zero = MapPoint course
Point course (suc zero) = NamesPoint course
Point course (suc (suc server)) = ServerPoint course server

-- the two disks of each store, one store after another
unfoldable pub pairs_of : {D : Type 0} → List D → List (D × D)
pairs_of (a ∷ b ∷ disks) = (a, b) ∷ pairs_of disks
pairs_of disks = []

-- whatever a crash now leaves of the two disks of a store, they spell its point
abbrev pub HoldStores : {D : Type 0} → Watch D → Course → List (D × D) → Type 0
HoldStores w course stores =
    (k : ℕ) (pair : _ × _) → slice_get stores k ≡ Some pair → Now w (Spells (kind_of k) (number_of k)) (Point course k) pair.0 pair.1

-- The disks of a yard hold a course: there are two for the map, for the names and for each server, and whatever a crash now
-- leaves of the two of a store, they spell its point.
pub record Holds {D : Type 0} (w : Watch D) (course : Course) (yard : List D) : Type 0 where
  pub servers : ℕ
  pub size : length yard ≡ 2 * (servers + 2)
  pub is : IsCourse servers course
  pub in_doubt : IfSome course.past.commit (MayCommit servers course)
  pub stores : HoldStores w course (pairs_of yard)
