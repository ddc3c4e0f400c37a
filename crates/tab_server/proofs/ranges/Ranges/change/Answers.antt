use Rattle.tab_server.proofs.Holding.{ready_at, changed_holding, changed_told, changed_done}
use Rattle.tab_server.proofs.ranges.Ranges.change.Goals as goal

pub apply-requires-clause-due : goal.apply-requires-clause-due
apply-requires-clause-due g c = (ready_at _ _ _ _ _ _ c.self.view_is c.self.invariant c.requires c.in-Some.ensures.some c.index_mut-marked.ensures.value).due

pub apply-requires-clause-inside : goal.apply-requires-clause-inside
apply-requires-clause-inside g c = (ready_at _ _ _ _ _ _ c.self.view_is c.self.invariant c.requires c.in-Some.ensures.some c.index_mut-marked.ensures.value).inside

pub apply-requires-clause-room : goal.apply-requires-clause-room
apply-requires-clause-room g c = (ready_at _ _ _ _ _ _ c.self.view_is c.self.invariant c.requires c.in-Some.ensures.some c.index_mut-marked.ensures.value).room

pub apply-requires-clause-ready : goal.apply-requires-clause-ready
apply-requires-clause-ready g c = (ready_at _ _ _ _ _ _ c.self.view_is c.self.invariant c.requires c.in-Some.ensures.some c.index_mut-marked.ensures.value).ready

pub invariant_of-self : goal.invariant_of-self
invariant_of-self g c =
    let ready = ready_at g.T.Tally.ready _ _ c.args.step _ _ c.self.view_is c.self.invariant c.requires c.in-Some.ensures.some c.index_mut-marked.ensures.value in
    changed_holding _ _ c.args.step _ _ _ c.self.invariant ready c.apply.ensures.made

pub returns-clause-told : goal.returns-clause-told
returns-clause-told g c =
    let ready = ready_at g.T.Tally.ready _ _ c.args.step _ _ c.self.view_is c.self.invariant c.requires c.in-Some.ensures.some c.index_mut-marked.ensures.value in
    changed_told _ _ c.args.step _ _ _ _ c.self.view_is c.self.invariant ready c.apply.ensures.made

pub returns-clause-done : goal.returns-clause-done
returns-clause-done g c =
    let ready = ready_at g.T.Tally.ready _ _ c.args.step _ _ c.self.view_is c.self.invariant c.requires c.in-Some.ensures.some c.index_mut-marked.ensures.value in
    changed_done _ _ c.args.step _ _ _ _ _ _ c.self.view_is ready c.apply.ensures.made c.apply.ensures.drew
