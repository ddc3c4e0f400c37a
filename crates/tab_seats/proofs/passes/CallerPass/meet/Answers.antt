use Rattle.std.proofs.Common.{◌≡◌, ◌+◌, ◌*◌, true, false, refl, ◌∙◌, ap, arith, length}
use Rattle.tab_seats.specs.Lists.{one_if}
use Rattle.tab_seats.specs.Views.{after_meet}
use Rattle.tab_seats.specs.Rule.{WordTells}
use Rattle.tab_seats.proofs.Holders.{at_view, from_view, HoldsPass, holds_met, mine_met, one_more}
use Rattle.tab_seats.proofs.passes.CallerPass.meet.Goals as goal

pub overflow_add-self : goal.overflow_add-self
overflow_add-self g c = let e = c.into_member-member.ensures in let told = c.check_as.ensures.told in let small = c.check_as.ensures.small in
    let one : length c.into_member-member.result.0.view.rights ≡ 1 = e.right ∙ ap one_if c.if-has_right.true in
    let h = one_more g.C.Keyed.key (1099511627776 * c.meet.new.self.office.passes) c.check_as.result c.self.inside.calls c.self.inside.member.view c.into_member-member.result.0.view c.self.invariant.2 one
    (from_view (WordTells g.C.Keyed.key (1099511627776 * c.meet.new.self.office.passes) c.check_as.result) c.meet.new.self c.self.inside.member.office (after_meet c.self.inside.member.view c.into_member-member.result.0.view) c.meet.ensures told) small in
    omega arith

pub invariant_of-self : goal.invariant_of-self
invariant_of-self g c = let e = c.into_member-member.ensures in let told = c.check_as.ensures.told in
    at_view (HoldsPass c.self.inside.permits (c.self.inside.calls + 1)) c.check_as.new.self c.self.inside.member.office (after_meet c.self.inside.member.view c.into_member-member.result.0.view) (c.check_as.ensures.same ∙ c.meet.ensures)
    (holds_met g.C.Keyed.key (1099511627776 * c.meet.new.self.office.passes) c.check_as.result c.self.inside.permits c.self.inside.calls (c.self.inside.calls + 1) true c.self.inside.member.view c.into_member-member.result.0.view refl c.self.invariant e.note (e.right ∙ ap one_if c.if-has_right.true)
    (from_view (WordTells g.C.Keyed.key (1099511627776 * c.meet.new.self.office.passes) c.check_as.result) c.meet.new.self c.self.inside.member.office (after_meet c.self.inside.member.view c.into_member-member.result.0.view) c.meet.ensures told))

pub invariant_of-self-else-has_right : goal.invariant_of-self-else-has_right
invariant_of-self-else-has_right g c = let e = c.into_member-member.ensures in let told = c.check_as.ensures.told in
    at_view (HoldsPass c.self.inside.permits c.self.inside.calls) c.check_as.new.self c.self.inside.member.office (after_meet c.self.inside.member.view c.into_member-member.result.0.view) (c.check_as.ensures.same ∙ c.meet.ensures)
    (holds_met g.C.Keyed.key (1099511627776 * c.meet.new.self.office.passes) c.check_as.result c.self.inside.permits c.self.inside.calls c.self.inside.calls false c.self.inside.member.view c.into_member-member.result.0.view (omega arith) c.self.invariant e.note (e.right ∙ ap one_if c.if-has_right.false)
    (from_view (WordTells g.C.Keyed.key (1099511627776 * c.meet.new.self.office.passes) c.check_as.result) c.meet.new.self c.self.inside.member.office (after_meet c.self.inside.member.view c.into_member-member.result.0.view) c.meet.ensures told))

pub returns-then-has_right-clause-last : goal.returns-then-has_right-clause-last
returns-then-has_right-clause-last g c n is low =
    mine_met c.args.self.now c.self.inside.member c.check_as.new.self c.self.inside.member.office c.into_member-member.result.0.view n c.self.view_is (c.check_as.ensures.same ∙ c.meet.ensures) c.self.invariant.0 (ap (λ m. m.view.rights) c.into_member-member.ensures.member ∙ is) low
