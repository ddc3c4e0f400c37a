use Rattle.std.proofs.Common.{◌≡◌, length}
use Rattle.tab_service.specs.Targets.{quoted}
use Rattle.tab_service.proofs.QuoteLemmas.{behind_bytes}
use Rattle.tab_service.proofs.requests.targets.quoted.Given as goal

abbrev pub decreases-loop-byte : goal.decreases-loop-byte
decreases-loop-byte l = length l.rest

abbrev pub invariant-loop-byte : goal.invariant-loop-byte
invariant-loop-byte l = quoted l.text ≡ behind_bytes l.out.items (quoted l.rest)
