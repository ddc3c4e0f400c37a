use Rattle.tab_stores.specs.Counting.{IsKept}
use Rattle.tab_stores.proofs.keeping.keep.Given as goal

abbrev pub invariant-loop-call : goal.invariant-loop-call
invariant-loop-call l = (goal.iterator-loop-call).can_next l.call-iterator × (goal.iterator-loop-call).is_finite l.call-iterator × IsKept l.kept
