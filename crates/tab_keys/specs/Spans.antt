-- What contracts see of a span.
use Rattle.std.specs.Prelude.{Bool, not, ◌&&◌}
use Rattle.tab_keys.specs.declared.keys.Key.{Key}
use Rattle.tab_keys.specs.declared.bounds.Bound.{Bound}
use Rattle.tab_keys.specs.Order.{is_before}

-- the keys from lo on and below hi
pub record Interval : Type 0 where
  pub lo : Bound
  pub hi : Bound

-- the key is one of the interval
abbrev pub has : Interval → Key → Bool
has span key = not (is_before key span.lo) && is_before key span.hi
