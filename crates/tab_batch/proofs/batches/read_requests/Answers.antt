use Rattle.std.proofs.Common.{arith}
use Rattle.tab_batch.proofs.BatchLemmas.{next_request, first_bad}
use Rattle.tab_batch.proofs.batches.read_requests.Goals as goal

pub returns-in_default-clause-refused : goal.returns-in_default-clause-refused
returns-in_default-clause-refused c =
    rw c.loop-range.invariant.count (first_bad c.args.bytes.now c.args.ranges.now c.loop-range.range-index _ c.loop-range.messages.items c.loop-range-test.true c.loop-range.invariant.read
    (rw c.in_default.is at c.in_ok-message.ensures))

pub loop-range-preserved : goal.loop-range-preserved
loop-range-preserved c = record {
  count = omega (arith, c.loop-range.invariant.count);
  read = rw c.in-Ok.ensures.items (next_request c.args.bytes.now c.args.ranges.now c.loop-range.range-index _ c.loop-range.messages.items c.in-Some.message c.loop-range-test.true c.loop-range.invariant.read
      (rw c.in-Some.is at c.in_ok-message.ensures));
}
