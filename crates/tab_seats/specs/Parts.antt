-- The rule of an office in seven parts, over its word and any of its views.
use Rattle.std.specs.Prelude.{◌≡◌, ℕ, ◌+◌, ◌<◌, ◌≤◌, ◌≢◌, List, Some, IsTrue}
use Rattle.std.specs.List.{sum_by}
use mathlib.Core.Option.{some}
use lib.ListN.{get_elem?}
use Rattle.tab_keys.specs.declared.keys.Key.{Key}
use Rattle.tab_keys.specs.Spans.{Interval, has}
use Rattle.tab_seats.specs.declared.views.Stroke.{Stroke}
use Rattle.tab_seats.specs.declared.views.LogCopy.{LogCopy}
use Rattle.tab_seats.specs.declared.views.View.{View}
use Rattle.tab_seats.specs.Lists.{In, times}
use Rattle.tab_seats.specs.Views.{Knows}

-- v is one of the views
abbrev pub IsLive : {C : Type 0} → List (View C) → View C → Type 0
IsLive {C} views v = (i : ℕ) × (get_elem? views i ≡ some v)

-- v and w are two of the views, at two places
abbrev pub AreTwo : {C : Type 0} → List (View C) → View C → View C → Type 0
AreTwo {C} views v w = (i : ℕ) × (j : ℕ) × (j ≢ i) × (get_elem? views i ≡ some v) × (get_elem? views j ≡ some w)

-- Numbers in views are below the word. Fronts and the words that notes keep are at most the word.
-- A note's word is above every number in its log.
pub record NumbersBelow {C : Type 0} (word : ℕ) (views : List (View C)) : Type 0 where
  pub strokes : (v : View C) → IsLive views v → (x : Stroke C) → Knows v x → x.number < word
  pub rights : (v : View C) → IsLive views v → (n : ℕ) → In n v.rights → n < word
  pub fronts : (v : View C) → IsLive views v → v.front ≤ word
  pub words : (v : View C) → IsLive views v → (p : LogCopy C) → In p v.notes → p.word ≤ word
  pub notes : (v : View C) → IsLive views v → (p : LogCopy C) → In p v.notes → (x : Stroke C) → In x p.log → x.number < p.word

module _ {C : Type 0} where
  -- Equal numbers are equal strokes.
  abbrev pub EqualNumbersEqualStrokes : List (View C) → Type 0
  EqualNumbersEqualStrokes views = (v w : View C) → IsLive views v → IsLive views w → (x y : Stroke C) → Knows v x → Knows w y → x.number ≡ y.number → x ≡ y

  -- Spans of live seats are disjoint.
  abbrev pub DisjointSpans : List (View C) → Type 0
  DisjointSpans views = (v w : View C) → AreTwo views v w → (s t : Interval) → v.span ≡ Some s → w.span ≡ Some t → (k : Key) → IsTrue (has s k) → ¬ (IsTrue (has t k))

  -- A stroke known to any view, whose key lies in a live seat's span, stands in that seat's log.
  abbrev pub SeatsHaveTheirs : (C → Key) → List (View C) → Type 0
  SeatsHaveTheirs key views = (v w : View C) → IsLive views v → IsLive views w → (s : Interval) → v.span ≡ Some s → (x : Stroke C) → Knows w x → IsTrue (has s (key x.command)) → In x v.log

  -- A stroke known to any view, below a note's word and with its key in the note's span, stands in the note's log.
  abbrev pub NotesHaveTheirs : (C → Key) → List (View C) → Type 0
  NotesHaveTheirs key views = (v w : View C) → IsLive views v → IsLive views w → (p : LogCopy C) → In p v.notes → (x : Stroke C) → Knows w x → x.number < p.word → IsTrue (has p.span (key x.command)) → In x p.log

-- The right to a number is in one view at most, and there once.
pub record RightsOnce {C : Type 0} (views : List (View C)) : Type 0 where
  pub apart : (v w : View C) → AreTwo views v w → (n : ℕ) → In n v.rights → ¬ (In n w.rights)
  pub once : (v : View C) → IsLive views v → (n : ℕ) → times n v.rights ≤ 1

-- The word and the permits of all views are together at most the bound.
abbrev pub PermitsWithin : {C : Type 0} → ℕ → ℕ → List (View C) → Type 0
PermitsWithin {C} bound word views = word + sum_by (λ (v : View C). v.permits) views ≤ bound

pub record SevenParts {C : Type 0} (key : C → Key) (bound word : ℕ) (views : List (View C)) : Type 0 where
  pub numbers : NumbersBelow word views
  pub equal : EqualNumbersEqualStrokes views
  pub disjoint : DisjointSpans views
  pub seats : SeatsHaveTheirs key views
  pub notes : NotesHaveTheirs key views
  pub rights : RightsOnce views
  pub permits : PermitsWithin bound word views
