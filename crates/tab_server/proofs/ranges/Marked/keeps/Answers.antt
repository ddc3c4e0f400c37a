use Rattle.std.proofs.Common.{ap, subst}
use Rattle.tab_keys.specs.Spans.{has}
use Rattle.tab_rows.specs.Rows.{RowView, AreRising}
use Rattle.tab_server.proofs.Checkpoints.{from_all}
use Rattle.tab_server.proofs.ranges.Marked.keeps.Goals as goal

pub returns : goal.returns
returns g c = record {
  rising = subst AreRising (ap (λ v. v.rows) c.rows.ensures) c.as_slice.ensures.rising;
  inside = from_all (λ (row : RowView). has c.args.self.now.range.span row.key) c.args.self.now.range.rows c.keeps.ensures.rows;
}
