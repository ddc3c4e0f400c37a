use Rattle.std.proofs.Common.{◌≤◌, ◌<◌, length, arith}
use Rattle.std.proofs.lemmas.List.{drop_all}
use Rattle.tab_stores.proofs.Counts.{count_next, count_end}
use Rattle.tab_stores.proofs.frames.count_of.Goals as goal

pub loop-frame-preserved : goal.loop-frame-preserved
loop-frame-preserved c =
    let within : c.loop-frame.frame-index < length c.args.frames.now = omega arith in
    count_next c.loop-frame.count c.count_after-count.result c.args.frames.now c.loop-frame.frame-index _ _ _ within c.frame-item.is c.loop-frame.invariant c.count_after-count.ensures

pub returns : goal.returns
returns c =
    let over : length c.args.frames.now ≤ c.loop-frame.frame-index = omega arith in
    count_end c.loop-frame.count c.args.frames.now c.loop-frame.frame-index _ (drop_all c.loop-frame.frame-index c.args.frames.now over) c.loop-frame.invariant
