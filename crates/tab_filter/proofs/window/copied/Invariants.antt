use Rattle.std.proofs.Common.{◌≡◌, take}
use Rattle.tab_filter.proofs.window.copied.Given as goal

abbrev pub invariant-loop-narrowing : goal.invariant-loop-narrowing
invariant-loop-narrowing l = l.copy.items ≡ take l.narrowing-index l.narrowings
