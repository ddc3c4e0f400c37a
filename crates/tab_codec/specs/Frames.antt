-- Which frames have a spelling: what their parts are, and their limits and orders.
use Rattle.std.specs.Prelude.{◌≡◌, ◌≤◌, ◌<◌, ◌^◌, ◌++◌, ◌∷◌, [], ℕ, List, length, IsTrue, AllPairs, IsUtf8, slice_index}
use Rattle.std.specs.List.{AllByRecursion}
use Rattle.tab_keys.specs.KeyTexts.{IsKeyText}
use Rattle.tab_keys.specs.Keys.{IsKey}
use Rattle.tab_keys.specs.TableNames.{IsTableName}
use Rattle.tab_keys.specs.Order.{bound_lt}
use Rattle.tab_keys.specs.Spans.{Interval}
use Rattle.tab_keys.specs.declared.bounds.Bound.{Bound}
use Rattle.tab_keys.specs.declared.bounds.Bound.TheVariants.{At, End}
use Rattle.tab_rows.specs.Rows.{IsKept, AreRising}
use Rattle.tab_rows.specs.declared.changes.Change.{Change}
use Rattle.tab_rows.specs.declared.changes.Change.TheVariants.{Put, Take}
use Rattle.tab_codec.specs.declared.frames.RangeRow.{RangeRow}
use Rattle.tab_codec.specs.declared.frames.Frame.{Frame}
use Rattle.tab_codec.specs.declared.frames.Frame.TheVariants as frames
use Rattle.tab_codec.specs.Spelling.{body, spelling}

abbrev pub AreBytes : List ℕ → Type 0
AreBytes bytes = (i : ℕ) → slice_index bytes i < 2 ^ 8

abbrev pub IsBound : Bound → Type 0
IsBound (At table pk) = (table < 2 ^ 64) × IsKeyText pk
IsBound End = Unit {0}

pub record IsSpan (span : Interval) : Type 0 where
  pub lo : IsBound span.lo
  pub hi : IsBound span.hi
  pub ordered : IsTrue (bound_lt span.lo span.hi)

abbrev pub IsChange : Change → Type 0
IsChange (Put row) = IsKept row
IsChange (Take key) = IsKey key

pub record IsRangeRow (row : RangeRow) : Type 0 where
  pub range : row.range < 2 ^ 64
  pub server : row.server < 2 ^ 8
  pub span : IsSpan row.span

pub record IsTable (entry : ℕ × List ℕ) : Type 0 where
  pub table : entry.0 < 2 ^ 64
  pub name : IsTableName entry.1
  pub utf8 : IsUtf8 entry.1

-- the parts are what their types keep
abbrev pub HasParts : Frame → Type 0
HasParts (frames.Begin range span next_tick) = (range < 2 ^ 64) × IsSpan span × (next_tick < 2 ^ 64)
HasParts (frames.Rows range rows) = (range < 2 ^ 64) × AllByRecursion IsKept rows
HasParts (frames.Whole range next_tick) = (range < 2 ^ 64) × (next_tick < 2 ^ 64)
HasParts (frames.Change range next_tick changes) = (range < 2 ^ 64) × (next_tick < 2 ^ 64) × AllByRecursion IsChange changes
HasParts (frames.Map next_range next_plan rows) = (next_range < 2 ^ 64) × (next_plan < 2 ^ 64) × AllByRecursion IsRangeRow rows
HasParts (frames.Commit plan next_range old_ranges new_rows) =
    (plan < 2 ^ 64) × (next_range < 2 ^ 64) × AllByRecursion (λ range. range < 2 ^ 64) old_ranges × AllByRecursion IsRangeRow new_rows
HasParts (frames.Names next_table names) = (next_table < 2 ^ 64) × AllByRecursion IsTable names
HasParts (frames.Create table name) = IsTable (table, name)
HasParts (frames.Drop table) = table < 2 ^ 64

-- the limits and orders that a frame adds
abbrev pub IsOrderly : Frame → Type 0
IsOrderly (frames.Begin range span next_tick) = Unit {0}
IsOrderly (frames.Rows range rows) = (length rows ≤ 1000) × AreRising rows
IsOrderly (frames.Whole range next_tick) = Unit {0}
IsOrderly (frames.Change range next_tick changes) = length changes < 2 ^ 16
IsOrderly (frames.Map next_range next_plan rows) =
    (length rows < 2 ^ 32) × AllPairs (λ (a b : RangeRow). IsTrue (bound_lt a.span.lo b.span.lo)) rows
IsOrderly (frames.Commit plan next_range old_ranges new_rows) = (length old_ranges < 2 ^ 8) × (length new_rows < 2 ^ 8)
IsOrderly (frames.Names next_table names) = (length names < 2 ^ 32) × AllPairs (λ (a b : ℕ × List ℕ). a.0 < b.0) names
IsOrderly (frames.Create table name) = Unit {0}
IsOrderly (frames.Drop table) = Unit {0}

-- the most bytes of a body
abbrev pub IsShort : List ℕ → Type 0
IsShort bytes = length bytes ≤ 268_435_456

-- what has a spelling
pub record HasSpelling (frame : Frame) : Type 0 where
  pub parts : HasParts frame
  pub orderly : IsOrderly frame
  pub short : IsShort (body frame)

-- the bytes are the spelling of the frame, and one byte 00 behind it, the next gate
pub record IsSpelled (frame : Frame) (bytes : List ℕ) : Type 0 where
  pub has : HasSpelling frame
  pub parts : bytes ≡ spelling frame ++ 0 ∷ []

-- the bytes begin with the spelling of this frame, which has so many bytes
pub record BeginsWith (frame : Frame) (size : ℕ) (bytes : List ℕ) : Type 0 where
  pub has : HasSpelling frame
  pub rest : List ℕ
  pub is : bytes ≡ spelling frame ++ rest
  pub count : size ≡ length (spelling frame)
