use Rattle.std.proofs.Common.{◌≡◌, length}
use Rattle.tab_service.specs.Preferences.{has_part}
use Rattle.tab_service.proofs.requests.formats.has_part.Given as goal

abbrev pub decreases-loop-rest : goal.decreases-loop-rest
decreases-loop-rest l = length l.rest

abbrev pub invariant-loop-rest : goal.invariant-loop-rest
invariant-loop-rest l = has_part l.word l.text ≡ has_part l.word l.rest
