use Rattle.std.proofs.Common.{rules, ◌≡◌, ◌<◌, vec_len, length, arith}
use Rattle.tab_server.proofs.ActLaws.{no_place, placed_within, spare_set, reserved_room}
use Rattle.tab_server.proofs.ranges.Ranges.reserve.Goals as goal

pub unreachable-requires : goal.unreachable-requires
unreachable-requires g c = c.requires (no_place c.args.self.now c.args.range (c.place_of.ensures.none c.in_default.is))

pub index_mut-requires : goal.index_mut-requires
index_mut-requires g c =
    let within : c.in-Some.place < length c.self.inside.list.items = placed_within _ _ c.args.range c.in-Some.place c.self.view_is c.in-Some.ensures.some in
    let size : vec_len c.self.inside.list ≡ length c.self.inside.list.items = search rules in
    omega (arith, within, size)

pub invariant_of-self : goal.invariant_of-self
invariant_of-self g c = (spare_set _ _ c.args.range c.in-Some.place _ c.reserve.new.self c.self.view_is c.self.invariant c.in-Some.ensures.some c.index_mut.ensures.value c.reserve.ensures.kept).0

pub returns-clause-kept : goal.returns-clause-kept
returns-clause-kept g c = (c.reserve.new.self.spare, (spare_set _ _ c.args.range c.in-Some.place _ c.reserve.new.self c.self.view_is c.self.invariant c.in-Some.ensures.some c.index_mut.ensures.value c.reserve.ensures.kept).1)

pub returns-clause-room : goal.returns-clause-room
returns-clause-room g c = reserved_room _ c.args.range _ c.args.more c.reserve.result (spare_set _ _ c.args.range c.in-Some.place _ c.reserve.new.self c.self.view_is c.self.invariant c.in-Some.ensures.some c.index_mut.ensures.value c.reserve.ensures.kept).2 c.reserve.ensures.ok
