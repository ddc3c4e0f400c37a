use Rattle.std.proofs.Common.{arith}
use Rattle.tab_codec.specs.Spelling.{range_row_spelling}
use Rattle.tab_codec.proofs.Sums.{part_within}
use Rattle.tab_codec.proofs.Sums.{put_more, all_more}
use Rattle.tab_codec.specs.Frames.{IsRangeRow}
use Rattle.tab_codec.proofs.writing.put_range_rows.Goals as goal

pub put_range_row-requires : goal.put_range_row-requires
put_range_row-requires c = omega (arith, c.requires, part_within range_row_spelling c.args.range_rows.now c.loop-row.row-index c.row-item.result c.loop-row-test.true c.row-item.is)

pub loop-row-preserved : goal.loop-row-preserved
loop-row-preserved c =
    record {
      bytes = put_more range_row_spelling c.args.range_rows.now c.loop-row.row-index c.row-item.result c.args.out.now.items c.loop-row.out.items c.put_range_row.new.out.items c.loop-row-test.true c.row-item.is c.loop-row.invariant.bytes c.in_ok-put_range_row.ensures.bytes;
      parts = all_more IsRangeRow c.args.range_rows.now c.loop-row.row-index c.row-item.result c.loop-row-test.true c.row-item.is c.loop-row.invariant.parts c.in_ok-put_range_row.ensures.parts;
    }
