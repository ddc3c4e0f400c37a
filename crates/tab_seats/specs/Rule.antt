-- The rule over the word of an office and all views that its holders have.
use Rattle.std.specs.Prelude.{◌≡◌, ℕ, ◌+◌, ◌*◌, ◌^◌, ◌<◌, ◌≤◌, List, [], ◌∷◌, length, Some, IsTrue}
use Rattle.std.specs.List.{sum_by}
use mathlib.Core.Option.{some}
use lib.ListN.{get_elem?}
use Rattle.tab_keys.specs.declared.keys.Key.{Key}
use Rattle.tab_keys.specs.Spans.{Interval, has}
use Rattle.tab_seats.specs.declared.views.Stroke.{Stroke}
use Rattle.tab_seats.specs.declared.views.LogCopy.{LogCopy}
use Rattle.tab_seats.specs.declared.views.View.{View}
use Rattle.tab_seats.specs.Lists.{In, times}
use Rattle.tab_seats.specs.Views.{Knows, covers}

-- how many strokes an office with so many passes can have: 2^40 for each pass
abbrev pub most_strokes : ℕ → ℕ
most_strokes passes = 2 ^ 40 * passes

-- a note against all strokes so far: it has those of its span below its word
pub record FitsCopy {C : Type 0} (key : C → Key) (all : List (Stroke C)) (p : LogCopy C) : Type 0 where
  pub word : p.word ≤ length all
  pub strokes : (x : Stroke C) → In x p.log → get_elem? all x.number ≡ some x
  pub below : (x : Stroke C) → In x p.log → x.number < p.word
  pub whole : (n : ℕ) (x : Stroke C) → get_elem? all n ≡ some x → n < p.word → IsTrue (has p.span (key x.command)) → In x p.log

-- a view against all strokes so far: its log has those of its span
pub record Fits {C : Type 0} (key : C → Key) (all : List (Stroke C)) (v : View C) : Type 0 where
  pub strokes : (x : Stroke C) → In x v.log → get_elem? all x.number ≡ some x
  pub front : v.front ≤ length all
  pub rights : (n : ℕ) → In n v.rights → n < length all
  pub span : (s : Interval) → v.span ≡ Some s → (n : ℕ) (x : Stroke C) → get_elem? all n ≡ some x → IsTrue (has s (key x.command)) → In x v.log
  pub notes : (p : LogCopy C) → In p v.notes → FitsCopy key all p

-- There is one list of all strokes, by number, as long as the word, and each view fits it.
-- Each key is in the span of one view at most, and each right in one view, once.
pub record SeatRule {C : Type 0} (key : C → Key) (bound : ℕ) (words : List ℕ) (views : List (View C)) : Type 0 where
  pub all : List (Stroke C)
  pub word : words ≡ length all ∷ []
  pub fits : (i : ℕ) (v : View C) → get_elem? views i ≡ some v → Fits key all v
  pub apart : (k : Key) → sum_by (λ (v : View C). covers k v.span) views ≤ 1
  pub single : (n : ℕ) → sum_by (λ (v : View C). times n v.rights) views ≤ 1
  pub within : length all + sum_by (λ (v : View C). v.permits) views ≤ bound

-- what a step that finds this word tells the view that takes it
pub record WordTells {C : Type 0} (key : C → Key) (bound : ℕ) (word : ℕ) (v : View C) : Type 0 where
  pub numbers : (x : Stroke C) → Knows v x → x.number < word
  pub rights : (n : ℕ) → In n v.rights → n < word
  pub front : v.front ≤ word
  pub words : (p : LogCopy C) → In p v.notes → p.word ≤ word
  pub below : (p : LogCopy C) → In p v.notes → (x : Stroke C) → In x p.log → x.number < p.word
  pub equal : (x y : Stroke C) → Knows v x → Knows v y → x.number ≡ y.number → x ≡ y
  pub seen : (p : LogCopy C) → In p v.notes → (x : Stroke C) → Knows v x → x.number < p.word → IsTrue (has p.span (key x.command)) → In x p.log
  pub single : (n : ℕ) → times n v.rights ≤ 1
  pub permits : word + v.permits ≤ bound
