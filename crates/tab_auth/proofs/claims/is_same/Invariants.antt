use Rattle.std.proofs.Common.{◌≡◌, ◌↔◌, length, take}
use Rattle.tab_auth.proofs.claims.is_same.Given as goal

abbrev pub invariant-loop-left : goal.invariant-loop-left
invariant-loop-left l = (l.difference ≡ 0) ↔ (take (length l.yielded) l.claimed ≡ take (length l.yielded) l.signature)
