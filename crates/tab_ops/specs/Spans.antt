-- What a group comes to, seen by the rows of a span.
use Rattle.std.specs.Prelude.{List, Result, Ok, Err}
use Rattle.tab_keys.specs.Spans.{Interval}
use Rattle.tab_rows.specs.Rows.{RowView}
use Rattle.tab_rows.specs.Spans.{rows_in}
use Rattle.tab_ops.specs.declared.groups.OpRefused.{OpRefused}

-- an outcome's rows in a span, or its refusal
abbrev pub outcome_in : Interval → Result (List RowView) OpRefused → Result (List RowView) OpRefused
outcome_in span (Ok after) = Ok (rows_in span after)
outcome_in span (Err why) = Err why
