use Rattle.std.proofs.Common.{◌≡◌, length, false}
use Rattle.tab_batch.specs.Boundaries.{pieces, boundary_parameter}
use Rattle.tab_batch.proofs.boundaries.boundary_parameter.Given as goal

abbrev pub invariant-loop-value : goal.invariant-loop-value
invariant-loop-value l = boundary_parameter (pieces false l.rest) ≡ boundary_parameter (pieces false l.parameters)

abbrev pub decreases-loop-value : goal.decreases-loop-value
decreases-loop-value l = length l.rest
