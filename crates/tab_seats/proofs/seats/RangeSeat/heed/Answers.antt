use Rattle.tab_seats.specs.Views.{after_meet}
use Rattle.tab_seats.proofs.Holders.{at_view, HoldsSeat, holds_heeded}
use Rattle.tab_seats.proofs.seats.RangeSeat.heed.Goals as goal

pub invariant_of-self : goal.invariant_of-self
invariant_of-self g c = let w = c.into_member.result.view in
    at_view (HoldsSeat c.self.inside.next c.self.inside.has_right) c.meet.new.self c.self.inside.member.office (after_meet c.self.inside.member.view w) c.meet.ensures
    (holds_heeded c.self.inside.next c.self.inside.has_right c.self.inside.member.view w c.into_member.ensures.slip c.self.invariant)
