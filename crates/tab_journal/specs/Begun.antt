-- Where the copy of a range stands among those that were begun.
use Rattle.std.specs.Prelude.{◌≡◌, ℕ, ◌<◌, List, length, get_or, set, Option, Some, None}
use Rattle.tab_journal.specs.Told.{begun, at_range}
use Rattle.tab_journal.specs.declared.ranges.RangeTold.{RangeTold}

-- the copy that stands at a place is the one that was begun with the number, and is changed there
pub record IsBegunAt (ranges : List RangeTold) (range place : ℕ) : Type 0 where
  pub within : place < length ranges
  pub found : (d : RangeTold) → begun ranges range ≡ Some (get_or ranges place d)
  pub changed : (f : RangeTold → RangeTold) (d : RangeTold) → at_range range f ranges ≡ set ranges place (f (get_or ranges place d))

abbrev pub IsPlaceOf : List RangeTold → ℕ → Option ℕ → Type 0
IsPlaceOf ranges range None = begun ranges range ≡ None
IsPlaceOf ranges range (Some place) = IsBegunAt ranges range place
