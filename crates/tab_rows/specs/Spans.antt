-- The rows of a span of keys.
use Rattle.std.specs.Prelude.{List, filter, not}
use Rattle.tab_keys.specs.Spans.{Interval, has}
use Rattle.tab_rows.specs.Rows.{RowView}

-- the rows at a span's keys
abbrev pub rows_in : Interval → List RowView → List RowView
rows_in span rows = filter (λ row. has span row.key) rows

-- the rows at all other keys
abbrev pub rows_beside : Interval → List RowView → List RowView
rows_beside span rows = filter (λ row. not (has span row.key)) rows
