use Rattle.tab_server.proofs.MarkLaws.{is_placed}
use Rattle.tab_server.proofs.MarkReady.{lacks_at, free_at, tallied_is, tallied_told, tallied_holding, given_still}
use Rattle.tab_server.proofs.ranges.Ranges.give.Goals as goal

pub give-requires-clause-none : goal.give-requires-clause-none
give-requires-clause-none g c =
    let at = is_placed _ _ c.args.range _ _ c.self.view_is c.self.invariant c.in-Some.ensures.some c.index_mut-marked.ensures.value in
    lacks_at _ _ c.args.range _ _ at c.requires.lacks

pub give-requires-clause-covers : goal.give-requires-clause-covers
give-requires-clause-covers g c =
    let at = is_placed _ _ c.args.range _ _ c.self.view_is c.self.invariant c.in-Some.ensures.some c.index_mut-marked.ensures.value in
    (c.requires.means _ at.found).0

pub give-requires-clause-allows : goal.give-requires-clause-allows
give-requires-clause-allows g c =
    let at = is_placed _ _ c.args.range _ _ c.self.view_is c.self.invariant c.in-Some.ensures.some c.index_mut-marked.ensures.value in
    (c.requires.means _ at.found).1

pub invariant_of-self : goal.invariant_of-self
invariant_of-self g c =
    let at = is_placed _ _ c.args.range _ _ c.self.view_is c.self.invariant c.in-Some.ensures.some c.index_mut-marked.ensures.value in
    tallied_holding _ _ c.args.range _ _ at _ _ c.give.ensures (free_at _ _ c.args.range _ _ at c.requires.lacks _)

pub returns-clause-is : goal.returns-clause-is
returns-clause-is g c =
    let at = is_placed _ _ c.args.range _ _ c.self.view_is c.self.invariant c.in-Some.ensures.some c.index_mut-marked.ensures.value in
    tallied_is _ _ c.args.range _ _ at _ _ c.give.ensures

pub returns-clause-told : goal.returns-clause-told
returns-clause-told g c =
    let at = is_placed _ _ c.args.range _ _ c.self.view_is c.self.invariant c.in-Some.ensures.some c.index_mut-marked.ensures.value in
    tallied_told _ _ c.args.range _ _ at _ _ c.give.ensures

pub returns-clause-ready : goal.returns-clause-ready
returns-clause-ready g c step r =
    let at = is_placed _ _ c.args.range _ _ c.self.view_is c.self.invariant c.in-Some.ensures.some c.index_mut-marked.ensures.value in
    given_still _ _ c.args.range _ _ at _ _ c.give.ensures g.T.Tally.ready step (lacks_at _ _ c.args.range _ _ at c.requires.lacks) r
