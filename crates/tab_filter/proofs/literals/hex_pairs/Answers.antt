use Rattle.tab_filter.proofs.LiteralSteps.{pairs_more, pairs_end, pairs_odd, pairs_wrong}
use Rattle.tab_filter.proofs.literals.hex_pairs.Goals as goal

pub returns-in_default-first_and_rest : goal.returns-in_default-first_and_rest
returns-in_default-first_and_rest c =
    pairs_odd c.loop-high.bytes.items c.loop-high.text.now c.in-Some.rest.now c.args.text.now c.in-Some.high c.loop-high.invariant c.in-Some.ensures c.in_default-first_and_rest.ensures

pub returns : goal.returns
returns c = pairs_end c.loop-high.bytes.items c.loop-high.text.now c.args.text.now c.loop-high.invariant c.in_default.ensures

pub loop-high-preserved : goal.loop-high-preserved
loop-high-preserved c =
    pairs_more c.loop-high.bytes.items c.push.new.self.items c.loop-high.text.now c.in-Some.rest.now c.in-Some-first_and_rest.rest.now c.args.text.now c.in-Some.high c.in-Some-first_and_rest.low c.in-Some-hex_byte.byte c.loop-high.invariant c.in-Some.ensures c.in-Some-first_and_rest.ensures c.in-Some-hex_byte.ensures c.in_ok-push.ensures.items

pub returns-in_default-hex_byte : goal.returns-in_default-hex_byte
returns-in_default-hex_byte c =
    pairs_wrong c.loop-high.bytes.items c.loop-high.text.now c.in-Some.rest.now c.in-Some-first_and_rest.rest.now c.args.text.now c.in-Some.high c.in-Some-first_and_rest.low c.loop-high.invariant c.in-Some.ensures c.in-Some-first_and_rest.ensures c.in_default-hex_byte.ensures
