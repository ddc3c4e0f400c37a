use Rattle.std.proofs.Common.{◌≡◌, ◌++◌, length}
use Rattle.std.specs.Prelude.{option_map}
use Rattle.tab_filter.specs.Literals.{hex_pairs}
use Rattle.tab_filter.proofs.literals.hex_pairs.Given as goal

abbrev pub invariant-loop-high : goal.invariant-loop-high
invariant-loop-high l = option_map (λ bytes. l.bytes.items ++ bytes) (hex_pairs l.text) ≡ hex_pairs l.fn.text

abbrev pub decreases-loop-high : goal.decreases-loop-high
decreases-loop-high l = length l.text
