use Rattle.std.proofs.Common.{arith, subst}
use Rattle.std.proofs.lemmas.List.{take_all}
use Rattle.std.proofs.lemmas.List.Elements.{All-more}
use Rattle.std.specs.List.{All}
use Rattle.tab_edm.specs.Values.{IsProperty}
use Rattle.tab_edm.proofs.Refusals.{passes, stops, passed_all}
use Rattle.tab_edm.proofs.entities.first_fault.Goals as goal

pub returns-in-Some-clause-first : goal.returns-in-Some-clause-first
returns-in-Some-clause-first c =
    (c.loop-index-test.true, λ d. stops c.args.properties.now c.loop-index.index c.index-properties-index.result d c.in-Some.fault c.loop-index-test.true c.index-properties-index.is c.in-Some.ensures.fault c.loop-index.invariant.passed)

pub loop-index-preserved : goal.loop-index-preserved
loop-index-preserved c = record {
  passed = passes c.args.properties.now c.loop-index.index c.index-properties-index.result c.loop-index-test.true c.index-properties-index.is c.in_default.ensures.fault c.loop-index.invariant.passed;
  typed = All-more IsProperty c.args.properties.now c.loop-index.index c.index-properties-index.result c.loop-index-test.true c.loop-index.invariant.typed
      (subst IsProperty c.index-properties-index.is c.in_default.ensures.typed);
}

pub returns-clause-first : goal.returns-clause-first
returns-clause-first c = passed_all c.args.properties.now c.loop-index.index (omega arith) c.loop-index.invariant.passed

pub returns-clause-typed : goal.returns-clause-typed
returns-clause-typed c = subst (All IsProperty) (take_all c.loop-index.index c.args.properties.now (omega arith)) c.loop-index.invariant.typed
