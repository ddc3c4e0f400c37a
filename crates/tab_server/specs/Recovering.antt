-- What is read of a server's store as it is opened.
use Rattle.std.specs.Prelude.{◌≡◌, ◌==◌, ◌+◌, ◌≤◌, ◌⊎◌, ℕ, List, [], ◌∷◌, length, map, nat_lt, true, None, Some, All, Contains, Result, Ok, Err, if◌then◌else◌}
use Rattle.std.specs.List.{insert}
use Rattle.tab_outside.specs.Disks.{Watch}
use Rattle.tab_outside.specs.Pairs.{AddsNone}
use Rattle.tab_keys.specs.Spans.{Interval}
use Rattle.tab_codec.specs.declared.frames.Frame.{Frame}
use Rattle.tab_journal.specs.Areas.{opened, first_gate}
use Rattle.tab_journal.specs.Reading.{Found}
use Rattle.tab_journal.specs.Stores.{area_a, area_b, HasFrames}
use Rattle.tab_range.specs.Ranges.{RangeView}
use Rattle.tab_server.specs.declared.marks.Mark.TheVariants.{Serving}
use Rattle.tab_server.specs.declared.ranges.Marked.{Marked}
use Rattle.tab_server.specs.Replays.{SpelledRange, spelled_range, SpellsEach}
use Rattle.tab_server.specs.Contents.{told_ranges}
use Rattle.tab_server.specs.Serving.{ServerView}

-- the frames spell the range of this number over just this span, and whole
pub record IsSpelledOver (frames : List Frame) (range : ℕ) (span : Interval) : Type 0 where
  pub one : SpelledRange
  pub is : spelled_range frames range ≡ Some one
  pub over : one.span ≡ span
  pub whole : one.is_whole ≡ true

abbrev pub IsListedThere : List Frame → ℕ × Interval → Type 0
IsListedThere frames listed = IsSpelledOver frames listed.0 listed.1

-- a range without a tally, just as the frames spell the range of this number whole over this span
pub record IsReadOver {T : Type 0} (frames : List Frame) (number : ℕ) (span : Interval) (range : RangeView T) : Type 0 where
  pub id : range.id ≡ number
  pub over : range.span ≡ span
  pub tally : range.tally ≡ None
  pub spelled : spelled_range frames number ≡ Some (record { range = number; span = span; rows = range.rows; next_tick = range.next_tick; is_whole = true })

-- Ranges that are held just as frames spell the listed ones: each serves, and has no tally yet.
pub record IsRecovered {T : Type 0} (frames : List Frame) (listed : List (ℕ × Interval)) (held : List (Marked T)) : Type 0 where
  pub each : All (IsListedThere frames) listed
  pub there : All (λ one. Contains (map (λ marked. marked.range.id) held) one.0) listed
  pub only : All (λ marked. Contains (map (λ one. one.0) listed) marked.range.id) held
  pub spelled : SpellsEach frames (told_ranges held)
  pub serving : All (λ marked. (marked.mark ≡ Serving) × (marked.range.tally ≡ None)) held

-- a range that takes its place among ranges by rising number, unless its number is there
abbrev pub with_range : {T : Type 0} → Marked T → List (Marked T) → List (Marked T)
with_range marked [] = marked ∷ []
with_range marked (one ∷ held) =
    if nat_lt marked.range.id one.range.id then marked ∷ one ∷ held
    else (if marked.range.id == one.range.id then one ∷ held else one ∷ with_range marked held)

-- a range of this number goes to this place among ranges by rising number
pub record GoesTo {T : Type 0} (held : List (Marked T)) (number place : ℕ) : Type 0 where
  pub within : place ≤ length held
  pub is : (marked : Marked T) → marked.range.id ≡ number → with_range marked held ≡ insert held place marked

-- the number is there, so a range of this number does not join
abbrev pub StaysWith : {T : Type 0} → List (Marked T) → ℕ → Type 0
StaysWith held number = (marked : _) → marked.range.id ≡ number → with_range marked held ≡ held

-- the frames do not spell a range that is listed
pub record LacksListed (frames : List Frame) (listed : List (ℕ × Interval)) : Type 0 where
  pub one : ℕ × Interval
  pub is : Contains listed one
  pub lacks : IsListedThere frames one → ⊥

-- where the frames of the area that counts end, in which a listed range is not spelled
pub record EndsWithout (listed : List (ℕ × Interval)) (read : Result Found (ℕ × ℕ)) (area at : ℕ) : Type 0 where
  pub found : Found
  pub is : read ≡ Ok found
  pub lacks : LacksListed found.frames listed
  pub in_area : area ≡ found.area
  pub end : at ≡ first_gate + length (opened found.frames)

-- a place of two areas that has no spelling, or counts as such
abbrev pub IsNoServer : List (ℕ × Interval) → Result Found (ℕ × ℕ) → ℕ → ℕ → Type 0
IsNoServer listed read area at = (read ≡ Err (area, at)) ⊎ EndsWithout listed read area at

-- A server that was read: it runs, nothing is in doubt, and it holds the listed ranges as its frames spell them.
pub record Recovers {D T : Type 0} (w : Watch D) (listed : List (ℕ × Interval)) (a b : D) (server : ServerView D T) : Type 0 where
  pub frames : List Frame
  pub has : HasFrames w server.store frames
  pub held : IsRecovered frames listed server.held
  pub images_a : AddsNone w a (area_a server.store)
  pub images_b : AddsNone w b (area_b server.store)

-- the two areas spell the frames that the ranges are recovered from
pub record IsReadFrom {D T : Type 0} (listed : List (ℕ × Interval)) (read : Result Found (ℕ × ℕ)) (server : ServerView D T) : Type 0 where
  pub found : Found
  pub is : read ≡ Ok found
  pub held : IsRecovered found.frames listed server.held
