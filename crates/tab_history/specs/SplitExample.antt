-- A map in small: the one range is to be split by a plan whose new ranges are written.
use Rattle.std.specs.Prelude.{List, [], ◌∷◌, false}
use Rattle.tab_keys.specs.declared.bounds.Bound.TheVariants.{At, End}
use Rattle.tab_history.specs.Configurations.{MapRow, PlanView, Configuration}
use Rattle.tab_history.specs.declared.entries.Entry.{Entry}
use Rattle.tab_history.specs.declared.entries.Entry.TheVariants as entry
use Rattle.tab_history.specs.declared.plans.PlanState.TheVariants.{Adopted}

-- the range of all keys, and the two that it is to be parted into, at the partition key `b`
abbrev pub whole_range : MapRow
whole_range = record { range = 1; server = 0; span = record { lo = At 0 []; hi = End } }

abbrev pub lower_range : MapRow
lower_range = record { range = 2; server = 0; span = record { lo = At 0 []; hi = At 1 (98 ∷ []) } }

abbrev pub upper_range : MapRow
upper_range = record { range = 3; server = 0; span = record { lo = At 1 (98 ∷ []); hi = End } }

abbrev pub split_plan : PlanView
split_plan = record { plan = 3; old_rows = whole_range ∷ []; new_rows = lower_range ∷ upper_range ∷ []; state = Adopted }

abbrev pub before_split : Configuration
before_split = record {
  rows = whole_range ∷ [];
  next_ticks = (1, 8) ∷ [];
  plans = split_plan ∷ [];
  next_range = 4;
  next_plan = 4;
  kept_range = 2;
  kept_plan = 1;
  stopped = false;
}

-- all is stopped and opened again
abbrev pub reopening : List Entry
reopening = entry.Stopped ∷ entry.Bounds (At 0 [] ∷ At 1 (98 ∷ []) ∷ []) ∷ []
