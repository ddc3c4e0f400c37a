use Rattle.std.proofs.Common.{◌≡◌, ◌-◌, length, Option, Some, map, sym, ap, ◌∙◌}
use Rattle.std.specs.List.{last_or, slice_get}
use Rattle.tab_keys.specs.declared.keys.Key.{Key}
use Rattle.tab_rows.specs.Rows.{RowView}
use Rattle.tab_journal.specs.declared.ranges.RangeTold.{RangeTold}
use Rattle.tab_journal.proofs.Lasts.{last_is}
use Rattle.tab_journal.proofs.ranges.RangeTold.take_rows.Goals as goal

abbrev some_key : Key → Option Key
some_key key = Some key

abbrev with_last : RangeTold → Option Key → RangeTold
with_last one last = record one { last = last }

pub returns-in_ok-try_copy-clause-after : goal.returns-in_ok-try_copy-clause-after
returns-in_ok-try_copy-clause-after c = λ _.
    let self = c.args.self.now in
    let rows = c.args.rows.now in
    let row = c.in-Some.row.now in
    let value : Some row ≡ slice_get rows (length rows - 1) = c.in-Some.ensures.value in
    let last : last_or self.last (map (λ (row : RowView). row.key) rows) ≡ Some row.key = last_is (λ (row : RowView). row.key) self.last rows row value in
    ap (with_last self) (ap some_key (c.in_ok-try_copy.ensures ∙ ap (λ (row : RowView). row.key) c.row.view_is) ∙ sym last)
