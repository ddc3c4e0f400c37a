use Rattle.tab_json.specs.Written.{row_written}
use Rattle.tab_json.proofs.WrittenLemmas.{one_more}
use Rattle.tab_json.proofs.entities.write_rows.Goals as goal

pub loop-row-preserved : goal.loop-row-preserved
loop-row-preserved c =
    one_more (row_written c.args.form.now) c.args.rows.now c.loop-row.row-index c.row-item.result _ _ _ c.loop-row-test.true c.row-item.is c.loop-row.invariant c.in_ok-write_row.ensures
