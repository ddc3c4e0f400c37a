use Rattle.std.proofs.Common.{◌≡◌, length}
use Rattle.std.specs.Prelude.{string_bytes}
use Rattle.tab_filter.specs.Literals.{with_front, inside_at}
use Rattle.tab_filter.proofs.literals.inside.Given as goal

abbrev pub invariant-loop-c : goal.invariant-loop-c
invariant-loop-c l = with_front (string_bytes l.inside) (inside_at l.text) ≡ inside_at l.fn.text

abbrev pub decreases-loop-c : goal.decreases-loop-c
decreases-loop-c l = length l.text
