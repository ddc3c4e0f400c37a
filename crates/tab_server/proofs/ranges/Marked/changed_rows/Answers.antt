use Rattle.std.proofs.Common.{◌≡◌, List, [], ◌∙◌, ap, subst}
use Rattle.tab_rows.specs.Rows.{RowView, AreRising}
use Rattle.tab_ops.specs.Changes.{applied}
use Rattle.tab_server.specs.Replays.{with_rows}
use Rattle.tab_server.proofs.Replaying.{rows_behind}
use Rattle.tab_server.proofs.ranges.Marked.changed_rows.Goals as goal

pub returns : goal.returns
returns g c =
    let rows : List RowView = c.args.self.now.range.rows in
    let same : c.rows.result.now.rows ≡ rows = ap (λ v. v.rows) c.rows.ensures in
    let copied : c.put_rows.new.rows.rows ≡ rows =
    c.in_ok-put_rows.ensures ∙ ap (λ (xs : List RowView). with_rows xs c.as_slice.result.now) c.new-rows.ensures ∙ ap (with_rows []) (c.as_slice.ensures.rows ∙ same) ∙ rows_behind [] rows (subst AreRising same c.as_slice.ensures.rising) in
    c.in_ok-make_changes.ensures ∙ ap (λ (xs : List RowView). applied xs c.as_slice-2.result.now) copied ∙ ap (applied rows) c.as_slice-2.ensures
