use Rattle.std.proofs.Common.{map}
use Rattle.std.specs.List.{last_or}
use Rattle.tab_rows.specs.Rows.{RowView}
use Rattle.tab_journal.specs.declared.ranges.RangeTold.{RangeTold}
use Rattle.tab_journal.proofs.Begun.{rows_here}
use Rattle.tab_journal.proofs.ranges.Ranges.take_rows.Goals as goal

pub returns-in-Some-clause-after : goal.returns-in-Some-clause-after
returns-in-Some-clause-after c =
    rows_here c.take_rows.result c.args.self.now c.self.inside.list.items c.args.range c.in-Some.place
    (λ (one : RangeTold). record one { last = last_or one.last (map (λ (row : RowView). row.key) c.args.rows.now) }) c.index_mut.result.now c.take_rows.new.self
    c.in-Some.ensures (let w = c.self.view_is in cc) c.index_mut.ensures.value c.take_rows.ensures.after
