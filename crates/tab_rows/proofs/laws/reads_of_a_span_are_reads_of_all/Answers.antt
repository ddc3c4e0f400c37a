use Rattle.tab_rows.proofs.SpanLaws.{row_at-in}
use Rattle.tab_rows.proofs.laws.reads_of_a_span_are_reads_of_all.Goals as goal

pub returns : goal.returns
returns c = row_at-in
