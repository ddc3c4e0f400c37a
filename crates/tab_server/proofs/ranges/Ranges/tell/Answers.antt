use Rattle.std.proofs.Common.{rules, ◌≡◌, ◌<◌, vec_len, length, arith}
use Rattle.tab_server.proofs.ActLaws.{placed_within}
use Rattle.tab_server.proofs.ActCalls.{silent_at, tally_set, no_place_served}
use Rattle.tab_server.proofs.ranges.Ranges.tell.Goals as goal

pub unreachable-requires : goal.unreachable-requires
unreachable-requires g c = no_place_served c.args.self.now c.args.range c.args.told.now.command c.requires.due.0 c.requires.due.1 (c.place_of.ensures.none c.in_default.is)

pub index_mut-requires : goal.index_mut-requires
index_mut-requires g c =
    let within : c.in-Some.place < length c.self.inside.list.items = placed_within _ _ c.args.range c.in-Some.place c.self.view_is c.in-Some.ensures.some in
    let size : vec_len c.self.inside.list ≡ length c.self.inside.list.items = search rules in
    omega (arith, within, size)

pub tell-requires-clause-due : goal.tell-requires-clause-due
tell-requires-clause-due g c = (silent_at g.T.Tally.ready _ _ c.args.range c.in-Some.place c.args.told.now.command c.args.now _ c.self.view_is c.self.invariant c.requires.due c.in-Some.ensures.some c.index_mut.ensures.value).due

pub tell-requires-clause-inside : goal.tell-requires-clause-inside
tell-requires-clause-inside g c = (silent_at g.T.Tally.ready _ _ c.args.range c.in-Some.place c.args.told.now.command c.args.now _ c.self.view_is c.self.invariant c.requires.due c.in-Some.ensures.some c.index_mut.ensures.value).inside

pub tell-requires-clause-ready : goal.tell-requires-clause-ready
tell-requires-clause-ready g c = (silent_at g.T.Tally.ready _ _ c.args.range c.in-Some.place c.args.told.now.command c.args.now _ c.self.view_is c.self.invariant c.requires.due c.in-Some.ensures.some c.index_mut.ensures.value).ready

pub invariant_of-self : goal.invariant_of-self
invariant_of-self g c =
    let silent = silent_at g.T.Tally.ready _ _ c.args.range c.in-Some.place c.args.told.now.command c.args.now _ c.self.view_is c.self.invariant c.requires.due c.in-Some.ensures.some c.index_mut.ensures.value in
    (tally_set g.T.Tally.drew g.T.Tally.ready g.T.Tally.kin _ _ c.args.range c.in-Some.place c.args.told.now c.args.now _ c.tell.new.self c.self.view_is c.self.invariant silent c.tell.ensures.kept c.tell.ensures.drew).0

pub returns : goal.returns
returns g c =
    let silent = silent_at g.T.Tally.ready _ _ c.args.range c.in-Some.place c.args.told.now.command c.args.now _ c.self.view_is c.self.invariant c.requires.due c.in-Some.ensures.some c.index_mut.ensures.value in
    (tally_set g.T.Tally.drew g.T.Tally.ready g.T.Tally.kin _ _ c.args.range c.in-Some.place c.args.told.now c.args.now _ c.tell.new.self c.self.view_is c.self.invariant silent c.tell.ensures.kept c.tell.ensures.drew).1
