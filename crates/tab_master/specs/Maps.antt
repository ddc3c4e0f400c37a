-- The map as it is kept: what the frames tell of it, its steps, and what is held in memory besides.
use Rattle.std.specs.Prelude.{◌≡◌, ◌≢◌, ℕ, ◌+◌, ◌-◌, ◌^◌, ◌<◌, ◌≤◌, max, List, [], ◌∷◌, ◌++◌, map, length, get_or, All, IsTrue, IsPermutation, Some}
use Rattle.tab_codec.specs.declared.frames.RangeRow.{RangeRow}
use Rattle.tab_codec.specs.declared.frames.Frame.{Frame}
use Rattle.tab_codec.specs.declared.frames.Frame.TheVariants as frames
use Rattle.tab_codec.specs.Frames.{IsOrderly}
use Rattle.tab_journal.specs.Areas.{AreFrames}
use Rattle.tab_journal.specs.Fitting.{Fits}
use Rattle.tab_journal.specs.Told.{most_rows, has_number, rows_besides}
use Rattle.tab_journal.specs.Keeping.{Sense}
use Rattle.tab_history.specs.Configurations.{MapRow, PlanView, row_with}
use Rattle.tab_keys.specs.declared.keys.Key.{Key}
use Rattle.tab_history.specs.Tilings.{TileKeys}
use Rattle.tab_history.specs.Ranges.{HaveOwnRanges}
use Rattle.tab_master.specs.Spelled.{SpelledMap, map_kind, map_row, spelled_map}

-- what the frames tell of the map, how many servers there are, the numbers of the next range and of the next plan that is made,
-- and the plans that have not ended
pub record MapView : Type 0 where
  pub told : SpelledMap
  pub servers : ℕ
  pub next_range : ℕ
  pub next_plan : ℕ
  pub plans : List PlanView

-- each row names one of so many servers
abbrev pub AreInYard : ℕ → List MapRow → Type 0
AreInYard servers rows = All (λ row. row.server < servers) rows

-- What a map over so many servers keeps: its spans tile the space of keys, no two ranges have one number, each number was given,
-- and its rows are as few as a frame may have.
pub record IsMapOver (servers : ℕ) (told : SpelledMap) : Type 0 where
  pub tiles : TileKeys told.rows
  pub in_yard : AreInYard servers told.rows
  pub differ : HaveOwnRanges told.rows
  pub given : All (λ row. row.range < told.next_range) told.rows
  pub few : length told.rows ≤ most_rows

-- the row that stands there is the one that has the key
pub record HasKeyAt (rows : List RangeRow) (key : Key) (index : ℕ) : Type 0 where
  pub within : index < length rows
  pub has : (row : RangeRow) → row ≡ get_or rows index row → row_with (map map_row rows) key ≡ Some (map_row row)

-- frames that stand for a map
abbrev pub MapStand : List Frame → SpelledMap → Type 0
MapStand list told = spelled_map list ≡ Some told

-- ---- opening

-- the frames spell no map that tiles the keys over so many servers
abbrev pub SpellNoMap : ℕ → List Frame → Type 0
SpellNoMap servers list = (told : SpelledMap) → spelled_map list ≡ Some told → TileKeys told.rows → AreInYard servers told.rows → ⊥

-- a map goes on from what its frames spell, without plans
pub record GoesOnFrom (servers : ℕ) (list : List Frame) (held : MapView) : Type 0 where
  pub stand : MapStand list held.told
  pub is : IsMapOver servers held.told
  pub servers_are : held.servers ≡ servers
  pub next_range : held.next_range ≡ held.told.next_range
  pub next_plan : held.next_plan ≡ held.told.next_plan
  pub plans : held.plans ≡ []

-- ---- checkpoints

abbrev pub range_row : MapRow → RangeRow
range_row row = record { range = row.range; server = row.server; span = row.span }

-- one frame that lists all rows in the order of their keys, with the next numbers, and so stands for the map
pub record IsMapCheckpoint (list : List Frame) (told : SpelledMap) : Type 0 where
  pub is : list ≡ frames.Map told.next_range told.next_plan (map range_row told.rows) ∷ []
  pub are : AreFrames map_kind list
  pub stand : MapStand list told

-- ---- steps: commits of plans

-- a commit: the plan's number, the number of the next range, the numbers of the rows that it takes out of the map, the rows
-- that it puts in, and all rows as they stand behind it
pub record MapCommit : Type 0 where
  pub plan : ℕ
  pub next_range : ℕ
  pub old_ranges : List ℕ
  pub new_rows : List RangeRow
  pub rows : List MapRow

abbrev pub map_frame : MapCommit → Frame
map_frame step = frames.Commit step.plan step.next_range step.old_ranges step.new_rows

-- the map behind a commit: the next plan's number is left behind this plan's
abbrev pub map_stepped : SpelledMap → MapCommit → SpelledMap
map_stepped told step = record { next_range = step.next_range; next_plan = max told.next_plan (step.plan + 1); rows = step.rows }

-- A commit that a map may take: its lists are no longer than those of a frame, and its plan leaves a number for the next one;
-- the next range's number does not fall, each old number is that of a row, and the new rows have numbers that no row has. The
-- rows behind it are the map's without the old and with the new ones; they tile the keys, and are a map's in all else.
pub record MayCommit (told : SpelledMap) (step : MapCommit) : Type 0 where
  pub spelled : IsOrderly (map_frame step)
  pub numbered : step.plan < 2 ^ 64 - 1
  pub not_below : told.next_range ≤ step.next_range
  pub listed : All (λ range. IsTrue (has_number (map range_row told.rows) range)) step.old_ranges
  pub fresh : All (λ new. All (λ row. row.range ≢ new.range) told.rows) step.new_rows
  pub moved : IsPermutation (rows_besides step.old_ranges (map range_row told.rows) ++ step.new_rows) (map range_row step.rows)
  pub tiles : TileKeys step.rows
  pub differ : HaveOwnRanges step.rows
  pub given : All (λ row. row.range < step.next_range) step.rows
  pub few : length step.rows ≤ most_rows

-- A commit that may be done, and whose frame so goes on from whatever frames stand for the map.
pub record MapGoesOn (told : SpelledMap) (step : MapCommit) : Type 0 where
  pub fits : MayCommit told step
  pub goes_on : (list : List Frame) → AreFrames map_kind list → MapStand list told → Fits map_kind list (map_frame step) × MapStand (list ++ map_frame step ∷ []) (map_stepped told step)

-- a commit names servers that are there
abbrev pub MapReady : MapView → MapCommit → Type 0
MapReady held step = AreInYard held.servers step.rows

-- a commit changes what is told, and nothing besides
abbrev pub MapDone : MapView → MapCommit → MapView → Type 0
MapDone old step new = new ≡ record old { told = map_stepped old.told step }

-- ---- the whole

abbrev pub map_sense : Sense MapView MapCommit
map_sense = record {
  kind = map_kind;
  Told = SpelledMap;
  tells = λ held. held.told;
  stands = MapStand;
  is_checkpoint = IsMapCheckpoint;
  fits = MapGoesOn;
  frame_of = map_frame;
  stepped = map_stepped;
  ready = MapReady;
  done = MapDone;
}
