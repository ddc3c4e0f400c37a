use Rattle.std.proofs.Common.{arith}
use Rattle.tab_codec.specs.Spelling.{row_spelling}
use Rattle.tab_codec.proofs.Sums.{part_within}
use Rattle.tab_codec.proofs.Sums.{put_more, all_more}
use Rattle.tab_rows.specs.Rows.{IsKept}
use Rattle.tab_codec.proofs.writing.put_rows.Goals as goal

pub put_row-requires : goal.put_row-requires
put_row-requires c = omega (arith, c.requires, part_within row_spelling c.args.rows.now c.loop-row.row-index c.row-item.result c.loop-row-test.true c.row-item.is)

pub loop-row-preserved : goal.loop-row-preserved
loop-row-preserved c =
    record {
      bytes = put_more row_spelling c.args.rows.now c.loop-row.row-index c.row-item.result c.args.out.now.items c.loop-row.out.items c.put_row.new.out.items c.loop-row-test.true c.row-item.is c.loop-row.invariant.bytes c.in_ok-put_row.ensures.bytes;
      parts = all_more IsKept c.args.rows.now c.loop-row.row-index c.row-item.result c.loop-row-test.true c.row-item.is c.loop-row.invariant.parts c.in_ok-put_row.ensures.parts;
    }
