-- The span of all keys has each key.
use Rattle.std.proofs.Common.{◌≡◌, [], List, not, ap, ◌∙◌}
use Rattle.std.specs.Prelude.{All, IsTrue, ◌&&◌, true}
use Rattle.tab_keys.specs.Spans.{Interval, has}
use Rattle.tab_keys.specs.declared.keys.Key.{Key}
use Rattle.tab_keys.specs.declared.bounds.Bound.TheVariants.{At, End}
use Rattle.tab_keys.proofs.OrderLaws.{is_before_first_bound}
use Rattle.tab_rows.specs.Rows.{RowView}

pub has_all : (span : Interval) (key : Key) → span ≡ record { lo = At 0 []; hi = End } → IsTrue (has span key)
has_all span key e = ap (λ (s : Interval). has s key) e ∙ ap (λ b. not b && true) (is_before_first_bound key)

pub all_has : (span : Interval) (rows : List RowView) → span ≡ record { lo = At 0 []; hi = End } → All (λ row. IsTrue (has span row.key)) rows
all_has span rows e k d within = has_all span _ e
