use Rattle.std.proofs.Common.{◌≡◌, map, take}
use Rattle.tab_batch.specs.Parts.{between}
use Rattle.tab_batch.specs.Requests.{AreRequests}
use Rattle.tab_batch.proofs.batches.read_requests.Given as goal

abbrev pub invariant-loop-range : goal.invariant-loop-range
invariant-loop-range l = record {
  count : l.index ≡ l.range-index;
  read : AreRequests (map (between l.bytes) (take l.range-index l.ranges)) l.messages.items;
}
