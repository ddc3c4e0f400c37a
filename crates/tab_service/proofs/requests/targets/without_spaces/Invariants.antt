use Rattle.std.proofs.Common.{◌≡◌, length}
use Rattle.tab_service.specs.Targets.{without_spaces}
use Rattle.tab_service.proofs.requests.targets.without_spaces.Given as goal

abbrev pub decreases-loop-first : goal.decreases-loop-first
decreases-loop-first l = length l.left

abbrev pub invariant-loop-first : goal.invariant-loop-first
invariant-loop-first l = without_spaces l.text ≡ without_spaces l.left
