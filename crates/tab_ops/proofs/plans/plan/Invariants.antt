use Rattle.tab_ops.proofs.Planning.{Planned}
use Rattle.tab_ops.proofs.plans.plan.Given as goal

abbrev pub invariant-loop-index : goal.invariant-loop-index
invariant-loop-index l = Planned l.rows.rows l.changes.items l.table l.tick l.items l.index
