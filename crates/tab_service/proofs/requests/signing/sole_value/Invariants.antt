use Rattle.std.proofs.Common.{◌≡◌, length}
use Rattle.tab_service.specs.Signing.{sole_value}
use Rattle.tab_service.proofs.requests.signing.sole_value.Given as goal

abbrev pub decreases-loop-first : goal.decreases-loop-first
decreases-loop-first l = length l.left

abbrev pub invariant-loop-first : goal.invariant-loop-first
invariant-loop-first l = sole_value l.name l.headers ≡ sole_value l.name l.left
