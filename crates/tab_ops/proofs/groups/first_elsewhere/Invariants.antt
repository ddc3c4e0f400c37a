use Rattle.std.proofs.Common.{◌≡◌, drop}
use Rattle.tab_ops.specs.Groups.{first_elsewhere}
use Rattle.tab_ops.proofs.groups.first_elsewhere.Given as goal

abbrev pub invariant-loop-index : goal.invariant-loop-index
invariant-loop-index l = first_elsewhere 0 l.first l.items ≡ first_elsewhere l.index l.first (drop l.index l.items)
