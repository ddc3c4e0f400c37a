use Rattle.std.proofs.Common.{refl}
use Rattle.tab_server.specs.Serving.{with_mark}
use Rattle.tab_server.proofs.MarkLaws.{is_placed, placed_alone}
use Rattle.tab_server.proofs.MarkReady.{remarked_holding, remarked_told, remarked_ready}
use Rattle.tab_server.proofs.ranges.Ranges.remark.Goals as goal

pub invariant_of-self : goal.invariant_of-self
invariant_of-self g c =
    let at = is_placed _ _ c.args.range _ _ c.self.view_is c.self.invariant c.in-Some.ensures.some c.index_mut-marked.ensures.value in
    remarked_holding _ _ c.args.range _ _ at c.args.mark c.requires.takes

pub returns-clause-is : goal.returns-clause-is
returns-clause-is g c =
    let at = is_placed _ _ c.args.range _ _ c.self.view_is c.self.invariant c.in-Some.ensures.some c.index_mut-marked.ensures.value in
    placed_alone _ _ c.args.range _ _ _ (with_mark c.args.mark) at refl

pub returns-clause-told : goal.returns-clause-told
returns-clause-told g c whole =
    let at = is_placed _ _ c.args.range _ _ c.self.view_is c.self.invariant c.in-Some.ensures.some c.index_mut-marked.ensures.value in
    remarked_told _ _ c.args.range _ _ at c.args.mark c.requires.takes whole

pub returns-clause-ready : goal.returns-clause-ready
returns-clause-ready g c step r =
    let at = is_placed _ _ c.args.range _ _ c.self.view_is c.self.invariant c.in-Some.ensures.some c.index_mut-marked.ensures.value in
    remarked_ready _ _ c.args.range _ _ at g.T.Tally.ready c.args.mark step r
