use Rattle.std.proofs.Common.{◌≡◌, ◌≤◌, ◌^◌, length}
use Rattle.tab_filter.specs.Literals.{digits_value}
use Rattle.tab_filter.proofs.literals.digits_value.Given as goal

abbrev pub invariant-loop-text : goal.invariant-loop-text
invariant-loop-text l = (digits_value l.minus l.n l.text ≡ digits_value l.minus 0 l.fn.text) × (l.n ≤ 2 ^ 63)

abbrev pub decreases-loop-text : goal.decreases-loop-text
decreases-loop-text l = length l.text
