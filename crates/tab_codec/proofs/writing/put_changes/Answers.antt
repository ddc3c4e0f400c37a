use Rattle.std.proofs.Common.{arith}
use Rattle.tab_codec.specs.Spelling.{change_spelling}
use Rattle.tab_codec.proofs.Sums.{part_within}
use Rattle.tab_codec.proofs.Sums.{put_more, all_more}
use Rattle.tab_codec.specs.Frames.{IsChange}
use Rattle.tab_codec.proofs.writing.put_changes.Goals as goal

pub put_change-requires : goal.put_change-requires
put_change-requires c = omega (arith, c.requires, part_within change_spelling c.args.changes.now c.loop-change.change-index c.change-item.result c.loop-change-test.true c.change-item.is)

pub loop-change-preserved : goal.loop-change-preserved
loop-change-preserved c =
    record {
      bytes = put_more change_spelling c.args.changes.now c.loop-change.change-index c.change-item.result c.args.out.now.items c.loop-change.out.items c.put_change.new.out.items c.loop-change-test.true c.change-item.is c.loop-change.invariant.bytes c.in_ok-put_change.ensures.bytes;
      parts = all_more IsChange c.args.changes.now c.loop-change.change-index c.change-item.result c.loop-change-test.true c.change-item.is c.loop-change.invariant.parts c.in_ok-put_change.ensures.parts;
    }
