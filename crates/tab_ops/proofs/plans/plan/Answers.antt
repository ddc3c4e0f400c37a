use Rattle.tab_ops.proofs.Planning.{planned_step}
use Rattle.tab_ops.proofs.plans.plan.Goals as goal

pub loop-index-preserved : goal.loop-index-preserved
loop-index-preserved c =
    planned_step c.loop-index.invariant c.in_ok-change_of.ensures.change c.in_ok-push.ensures.items c.index-items-index.is c.items-items.ensures.items c.items-items.ensures.group.apart c.loop-index-test.true
