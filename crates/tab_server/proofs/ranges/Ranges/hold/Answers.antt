use Rattle.std.proofs.Common.{ap, is_ok}
use Rattle.tab_server.proofs.Placing.{placed_with, placed_holding}
use Rattle.tab_server.proofs.ranges.Ranges.hold.Goals.{in-Ok, in-Err}
use Rattle.tab_server.proofs.ranges.Ranges.hold.Goals as goal

pub invariant_of-self : goal.invariant_of-self
invariant_of-self g c =
    placed_holding c.self.inside.list.items c.args.self.now c.insert.new.self.items c.args.marked c.id.result c.in-Some.place c.self.view_is c.in-Some.ensures.some c.id.ensures (is_ok c.insert.result) c.insert.ensures.items c.self.invariant c.requires

pub returns : goal.returns
returns g c = elim c.match-insert.branch [
  | in-Ok w ↦ rw w.result-is (placed_with c.self.inside.list.items c.args.self.now c.insert.new.self.items c.args.marked c.id.result c.in-Some.place c.self.view_is c.in-Some.ensures.some c.id.ensures (is_ok c.insert.result) c.insert.ensures.items (ap is_ok w.in-Ok.is))
  | in-Err w ↦ rw w.result-is tt
]
