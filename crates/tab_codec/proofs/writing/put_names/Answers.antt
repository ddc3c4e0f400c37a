use Rattle.std.proofs.Common.{arith}
use Rattle.tab_codec.specs.Spelling.{name_spelling}
use Rattle.tab_codec.proofs.Sums.{part_within}
use Rattle.tab_codec.proofs.Sums.{put_more, all_more}
use Rattle.tab_codec.specs.Frames.{IsTable}
use Rattle.tab_codec.proofs.writing.put_names.Goals as goal

pub put_name-requires : goal.put_name-requires
put_name-requires c = omega (arith, c.requires, part_within name_spelling c.args.names.now c.loop-name.name-index c.name-item.result c.loop-name-test.true c.name-item.is)

pub loop-name-preserved : goal.loop-name-preserved
loop-name-preserved c =
    record {
      bytes = put_more name_spelling c.args.names.now c.loop-name.name-index c.name-item.result c.args.out.now.items c.loop-name.out.items c.put_name.new.out.items c.loop-name-test.true c.name-item.is c.loop-name.invariant.bytes c.in_ok-put_name.ensures.bytes;
      parts = all_more IsTable c.args.names.now c.loop-name.name-index c.name-item.result c.loop-name-test.true c.name-item.is c.loop-name.invariant.parts c.in_ok-put_name.ensures.parts;
    }
