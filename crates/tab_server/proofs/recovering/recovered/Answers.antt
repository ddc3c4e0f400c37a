use Rattle.tab_server.proofs.Recovered.{recovered_on, recovered_all}
use Rattle.tab_server.proofs.recovering.recovered.Goals as goal

pub loop-number-preserved : goal.loop-number-preserved
loop-number-preserved g c =
    recovered_on c.args.frames.now c.args.listed.now _ _ c.loop-number.number-index c.loop-number-item.result c.in-Some.range c.loop-number-test.true c.loop-number-item.is c.loop-number.invariant (rw c.in-Some.is at c.in_ok-range.ensures) c.in_ok-hold.ensures

pub returns : goal.returns
returns g c = recovered_all c.args.frames.now c.args.listed.now c.loop-number.ranges c.loop-number.number-index c.loop-number-test.false c.loop-number.invariant
