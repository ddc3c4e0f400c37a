use Rattle.std.proofs.Common.{◌^◌, ◌<◌, get_or, arith}
use Rattle.std.specs.Int.{w64, to_be_bytes}
use Rattle.std.proofs.lemmas.List.{get_or_default}
use Rattle.tab_codec.proofs.Sums.{put_more, all_more}
use Rattle.tab_codec.proofs.writing.put_numbers.Goals as goal

pub loop-number-preserved : goal.loop-number-preserved
loop-number-preserved c =
    let xs = c.args.numbers.now in
    let i = c.loop-number.number-index in
    let x = get_or xs i 0 in
    let is = get_or_default xs i 0 x c.loop-number-test.true in
    record {
      bytes = put_more (to_be_bytes w64) xs i x c.args.out.now.items c.loop-number.out.items c.put_u64.new.out.items c.loop-number-test.true is c.loop-number.invariant.bytes c.in_ok-put_u64.ensures;
      parts = all_more (λ number. number < 2 ^ 64) xs i x c.loop-number-test.true is c.loop-number.invariant.parts (omega (arith, c.type_inv.numbers i));
    }
