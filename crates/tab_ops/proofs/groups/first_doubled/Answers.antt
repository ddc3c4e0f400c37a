use Rattle.std.proofs.Common.{◌∙◌, sym, subst, arith, take_all}
use Rattle.tab_ops.specs.Groups.{AreApart}
use Rattle.tab_ops.proofs.GroupLemmas.{looked_stops, looked_more, apart_more}
use Rattle.tab_ops.proofs.groups.first_doubled.Goals as goal

pub returns-then-stood_before-clause-refusal : goal.returns-then-stood_before-clause-refusal
returns-then-stood_before-clause-refusal c =
    sym (looked_stops c.args.items.now c.loop-index.index c.index-items-index.result c.loop-index-test.true c.index-items-index.is (sym c.stood_before.ensures.bytes ∙ c.if-stood_before.true) c.loop-index.invariant.doubled)

pub loop-index-preserved : goal.loop-index-preserved
loop-index-preserved c = record {
  doubled = looked_more c.args.items.now c.loop-index.index c.index-items-index.result c.loop-index-test.true c.index-items-index.is (sym c.stood_before.ensures.bytes ∙ c.if-stood_before.false) c.loop-index.invariant.doubled;
  apart = apart_more c.args.items.now c.loop-index.index c.index-items-index.result c.loop-index-test.true c.index-items-index.is (c.stood_before.ensures.units c.if-stood_before.false) c.loop-index.invariant.apart;
}

pub returns-clause-apart : goal.returns-clause-apart
returns-clause-apart c = subst AreApart (take_all c.loop-index.index c.args.items.now (omega arith)) c.loop-index.invariant.apart
