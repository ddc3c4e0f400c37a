use Rattle.std.proofs.Common.{ℕ, List, length, drop, map}
use Rattle.std.specs.List.{AllByRecursion}
use Rattle.tab_outside.specs.Logs.{IsPadded, FitsIn, logged, writes_of}
use Rattle.tab_outside.proofs.Settling.{PaintsOn}
use Rattle.tab_outside.proofs.logs.paint_all.Given as goal

abbrev pub invariant-loop-call : goal.invariant-loop-call
invariant-loop-call l = record {
  fits : AllByRecursion (FitsIn (length l.bytes)) (writes_of (map logged (drop l.call-index l.calls)));
  paints : (base : List ℕ) → IsPadded base l.fn.bytes → PaintsOn l.pick base (writes_of (map logged l.calls)) (writes_of (map logged (drop l.call-index l.calls))) l.bytes;
}
