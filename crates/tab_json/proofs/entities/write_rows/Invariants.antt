use Rattle.std.proofs.Common.{◌≡◌, ◌++◌, flat_map, take}
use Rattle.tab_json.specs.Written.{row_written}
use Rattle.tab_json.proofs.entities.write_rows.Given as goal

abbrev pub invariant-loop-row : goal.invariant-loop-row
invariant-loop-row l = l.text ≡ l.fn.text ++ flat_map (row_written l.form) (take l.row-index l.rows)
