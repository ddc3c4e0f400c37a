use Rattle.std.proofs.Common.{true}
use Rattle.tab_journal.specs.declared.ranges.RangeTold.{RangeTold}
use Rattle.tab_journal.proofs.Begun.{changed_here}
use Rattle.tab_journal.proofs.ranges.Ranges.make_whole.Goals as goal

pub returns-in-Some-clause-after : goal.returns-in-Some-clause-after
returns-in-Some-clause-after c = λ _.
    changed_here c.args.self.now c.self.inside.list.items c.args.range c.in-Some.place (λ (one : RangeTold). record one { is_whole = true }) c.index_mut.result.now
    c.in-Some.ensures (let w = c.self.view_is in cc) c.index_mut.ensures.value
