use Rattle.std.proofs.Common.{◌≡◌, length}
use Rattle.tab_http.specs.Headers.{says_close}
use Rattle.tab_http.proofs.header_fields.says_close.Given as goal

abbrev pub invariant-loop-comma : goal.invariant-loop-comma
invariant-loop-comma l = says_close l.rest ≡ says_close l.value

abbrev pub decreases-loop-comma : goal.decreases-loop-comma
decreases-loop-comma l = length l.rest
