-- The one range of a store.
use Rattle.std.specs.Prelude.{[]}
use Rattle.tab_keys.specs.Spans.{Interval}
use Rattle.tab_keys.specs.declared.bounds.Bound.TheVariants.{At, End}

-- the interval of all keys
abbrev pub all_keys : Interval
all_keys = record { lo = At 0 []; hi = End }
