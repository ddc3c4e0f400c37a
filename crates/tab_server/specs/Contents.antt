-- What a server holds: ranges with their marks, of which a step changes one, and what frames tell of them.
use Rattle.std.specs.Prelude.{◌≡◌, ◌<◌, ◌≤◌, ◌+◌, ◌^◌, ℕ, List, [], ◌∷◌, ◌++◌, map, length, set, slice_get, Bool, true, All, AllPairs, Contains, IsTrue, Option, Some, None, ⊤}
use Rattle.std.specs.List.{list_all}
use Rattle.tab_keys.specs.Spans.{has}
use Rattle.tab_ops.specs.Changes.{applied}
use Rattle.tab_ops.specs.declared.TheConstants.{MOST_ITEMS}
use Rattle.tab_seats.specs.declared.views.Stroke.{Stroke}
use Rattle.tab_codec.specs.declared.frames.Frame.{Frame}
use Rattle.tab_codec.specs.declared.frames.Frame.TheVariants as frames
use Rattle.tab_journal.specs.Told.{changed_key, keys_differ}
use Rattle.tab_journal.specs.Areas.{AreFrames}
use Rattle.tab_journal.specs.Fitting.{Fits}
use Rattle.tab_journal.specs.Keeping.{Sense}
use Rattle.tab_range.specs.declared.commands.Told.{Told}
use Rattle.tab_range.specs.Ranges.{RangeView, DrewOne, range_outcome}
use Rattle.tab_range.specs.declared.commands.Answer.TheVariants as answer
use Rattle.tab_range.specs.Outcomes.{accepted, AreOf}
use Rattle.tab_range.specs.Commands.{command_key}
use Rattle.tab_server.specs.Replays.{SpelledRange, changed_at, SpellsEach}
use Rattle.tab_server.specs.Rewriting.{IsCheckpoint}
use Rattle.tab_server.specs.declared.marks.Mark.{Mark}
use Rattle.tab_server.specs.declared.marks.Mark.TheVariants.{Serving, Sealed, Copy}
use Rattle.tab_server.specs.declared.steps.RangeChange.{RangeChange}
use Rattle.tab_server.specs.declared.ranges.Marked.{Marked}

-- a copy is whole from its end on, and all else is
abbrev pub is_whole : Mark → Bool
is_whole Serving = true
is_whole Sealed = true
is_whole (Copy whole) = whole

-- what frames tell of a range that is held: all but its mark, its tally and its room
abbrev pub told_of : {T : Type 0} → Marked T → SpelledRange
told_of marked = record {
  range = marked.range.id;
  span = marked.range.span;
  rows = marked.range.rows;
  next_tick = marked.range.next_tick;
  is_whole = is_whole marked.mark;
}

abbrev pub told_ranges : {T : Type 0} → List (Marked T) → List SpelledRange
told_ranges held = map told_of held

-- ---- what is held

abbrev pub numbers : {T : Type 0} → List (Marked T) → List ℕ
numbers held = map (λ marked. marked.range.id) held

-- a copy has no tally
abbrev pub IsUncounted : {T : Type 0} → Mark → Option T → Type 0
IsUncounted Serving tally = ⊤
IsUncounted Sealed tally = ⊤
IsUncounted (Copy whole) tally = tally ≡ None

-- ranges by rising number, of which copies have no tally
pub record IsHolding {T : Type 0} (held : List (Marked T)) : Type 0 where
  pub apart : AllPairs (λ a b. a < b) (numbers held)
  pub uncounted : All (λ marked. IsUncounted marked.mark marked.range.tally) held

-- at this place stands the range of this number
pub record StandsAt {T : Type 0} (held : List (Marked T)) (range place : ℕ) (marked : Marked T) : Type 0 where
  pub here : slice_get held place ≡ Some marked
  pub number : marked.range.id ≡ range

-- ---- a change

-- the frame of a change
abbrev pub change_frame : RangeChange → Frame
change_frame step = frames.Change step.range (step.changes.tick + 1) step.changes.list

-- what a change, where there is one, makes of a range
abbrev pub told_with : Option RangeChange → SpelledRange → SpelledRange
told_with None one = one
told_with (Some step) one = changed_at step.range step.changes.list (step.changes.tick + 1) one

-- what a change makes of ranges
abbrev pub with_change : List SpelledRange → RangeChange → List SpelledRange
with_change ranges step = map (told_with (Some step)) ranges

-- A change that ranges take: its range is there and whole, its keys differ and lie in the span, and it is no longer than a
-- group.
pub record TakesChange (ranges : List SpelledRange) (step : RangeChange) : Type 0 where
  pub one : SpelledRange
  pub held : Contains ranges one
  pub number : one.range ≡ step.range
  pub whole : one.is_whole ≡ true
  pub inside : list_all (λ change. has one.span (changed_key change)) step.changes.list ≡ true
  pub apart : keys_differ step.changes.list ≡ true
  pub few : length step.changes.list ≤ MOST_ITEMS
  pub in_time : step.changes.tick + 1 < 2 ^ 64

-- A change that ranges take, and whose frame so goes on from whatever frames stand for them.
pub record ChangeFits (ranges : List SpelledRange) (step : RangeChange) : Type 0 where
  pub takes : TakesChange ranges step
  pub goes_on : (frames : List Frame) → SpellsEach frames ranges → Fits 2 frames (change_frame step) × SpellsEach (frames ++ change_frame step ∷ []) (with_change ranges step)

-- A change of a range that is held and whole: its command's key lies in the range, and at the change's moment the command comes
-- to just these changes, which are those of a group.
pub record IsAcceptedChange {T : Type 0} (held : List (Marked T)) (step : RangeChange) : Type 0 where
  pub place : ℕ
  pub marked : Marked T
  pub stands : StandsAt held step.range place marked
  pub whole : is_whole marked.mark ≡ true
  pub inside : IsTrue (has marked.range.span (command_key step.told.command))
  pub due : range_outcome marked.range step.told.command step.moment ≡ accepted step.changes.tick (applied marked.range.rows step.changes.list)
  pub of : AreOf step.told.command (answer.Change step.changes)

-- A change that may be done in memory: its command comes to just these changes, there is room for them, and the range's tally
-- can draw a stroke.
pub record IsReadyFor {T : Type 0} (is_ready : T → ℕ → Type 0) (held : List (Marked T)) (step : RangeChange) : Type 0 where
  pub place : ℕ
  pub marked : Marked T
  pub stands : StandsAt held step.range place marked
  pub due : range_outcome marked.range step.told.command step.moment ≡ accepted step.changes.tick (applied marked.range.rows step.changes.list)
  pub tick : step.told.tick ≡ Some step.changes.tick
  pub inside : IsTrue (has marked.range.span (command_key step.told.command))
  pub room : length step.changes.list ≤ marked.range.spare
  pub ready : (tally : T) × (marked.range.tally ≡ Some tally) × is_ready tally 1

-- A change that was done in memory: the range has the changed rows and the next tick behind them, and its tally drew one
-- stroke. Its mark and all other ranges are as before.
pub record IsChanged {T : Type 0} (is_drawn : T → Stroke Told → T → Type 0) (is_ready : T → ℕ → Type 0) (are_kin : T → T → Type 0) (held : List (Marked T)) (step : RangeChange) (after : List (Marked T)) : Type 0 where
  pub place : ℕ
  pub marked : Marked T
  pub stands : StandsAt held step.range place marked
  pub range : RangeView T
  pub is : after ≡ set held place (record marked { range = range })
  pub made : range ≡ record marked.range { rows = applied marked.range.rows step.changes.list; next_tick = step.changes.tick + 1; spare = range.spare; tally = range.tally }
  pub drew : DrewOne is_drawn is_ready are_kin step.told step.moment marked.range.tally range.tally

-- the frames of a checkpoint, which are so frames of a server's store and stand for the ranges
pub record IsServerCheckpoint (frames : List Frame) (ranges : List SpelledRange) : Type 0 where
  pub checkpoint : IsCheckpoint frames ranges
  pub are : AreFrames 2 frames
  pub stand : SpellsEach frames ranges

-- what a server's frames stand for
abbrev pub ranges_sense : {T : Type 0} → (T → Stroke Told → T → Type 0) → (T → ℕ → Type 0) → (T → T → Type 0) → Sense (List (Marked T)) RangeChange
ranges_sense is_drawn is_ready are_kin = record {
  kind = 2;
  Told = List SpelledRange;
  tells = told_ranges;
  stands = SpellsEach;
  is_checkpoint = IsServerCheckpoint;
  fits = ChangeFits;
  frame_of = change_frame;
  stepped = with_change;
  ready = IsReadyFor is_ready;
  done = IsChanged is_drawn is_ready are_kin;
}
