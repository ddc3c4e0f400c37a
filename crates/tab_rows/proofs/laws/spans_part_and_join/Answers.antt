use Rattle.tab_rows.proofs.SpanLaws.{rows_in-within, rows_in-joined}
use Rattle.tab_rows.proofs.laws.spans_part_and_join.Goals as goal

pub returns-clause-part : goal.returns-clause-part
returns-clause-part c = rows_in-within

pub returns-clause-joined : goal.returns-clause-joined
returns-clause-joined c = rows_in-joined
