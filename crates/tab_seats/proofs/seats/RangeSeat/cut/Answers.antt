use Rattle.std.proofs.Common.{false, refl}
use Rattle.tab_seats.specs.Views.{left_half, right_half}
use Rattle.tab_seats.proofs.Holders.{at_view, HoldsSeat, seat_left, seat_right}
use Rattle.tab_seats.proofs.seats.RangeSeat.cut.Goals as goal

pub invariant_of-result : goal.invariant_of-result
invariant_of-result g c = let h = c.in-Ok.ensures.ok in
    at_view (HoldsSeat c.self.inside.next c.self.inside.has_right) c.cut_as.new.self c.self.inside.member.office (left_half c.args.at.now c.self.inside.member.view) h.1
    (seat_left c.args.at.now c.self.inside.member.view c.self.invariant.0, c.self.invariant.1, c.self.invariant.2)

pub invariant_of-result-in-Ok : goal.invariant_of-result-in-Ok
invariant_of-result-in-Ok g c = let h = c.in-Ok.ensures.ok in
    at_view (HoldsSeat c.self.inside.next false) c.in-Ok.right c.self.inside.member.office (right_half c.args.at.now c.self.inside.member.view) h.0
    (seat_right c.args.at.now c.self.inside.member.view c.self.invariant.0, c.self.invariant.1, refl)
