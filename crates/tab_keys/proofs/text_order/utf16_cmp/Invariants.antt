use Rattle.std.proofs.Common.{◌≡◌, ℕ, ◌<◌, length, get_or}
use Rattle.tab_keys.proofs.text_order.utf16_cmp.Given as goal

abbrev pub invariant-loop-x : goal.invariant-loop-x
invariant-loop-x l = (k : ℕ) → k < length l.yielded → get_or l.a k 0 ≡ get_or l.b k 0
