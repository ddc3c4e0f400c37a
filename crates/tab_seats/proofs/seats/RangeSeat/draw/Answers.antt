use Rattle.std.proofs.Common.{◌≡◌, ◌+◌, ◌*◌, [], ◌∷◌, true}
use Rattle.tab_seats.specs.declared.views.View.{View}
use Rattle.tab_seats.specs.Logs.{next_number, last_right}
use Rattle.tab_seats.specs.Views.{after_draw}
use Rattle.tab_seats.proofs.Holders.{at_view, HoldsSeat, holds_drawn, next_drawn, right_drawn}
use Rattle.tab_seats.proofs.seats.RangeSeat.draw.Goals as goal

pub invariant_of-self : goal.invariant_of-self
invariant_of-self g c = let n = c.draw_as-number.result in let e = c.draw_as-number.ensures in
    at_view (HoldsSeat (n + 1) true) c.draw_as-number.new.self c.self.inside.member.office (after_draw c.self.inside.member.view n c.args.command.now c.args.now) e.view
    (holds_drawn g.C.Keyed.key (1099511627776 * c.self.inside.member.office.passes) c.self.inside.member.view n c.args.command.now c.args.now c.self.invariant.0 e.told)

pub returns-clause-last : goal.returns-clause-last
returns-clause-last g c = let n = c.draw_as-number.result in let e = c.draw_as-number.ensures in
    at_view (λ (v : View g.row.C.Denot). next_number v.log ≡ n + 1) c.draw_as-number.new.self c.self.inside.member.office (after_draw c.self.inside.member.view n c.args.command.now c.args.now) e.view
    (next_drawn g.C.Keyed.key (1099511627776 * c.self.inside.member.office.passes) c.self.inside.member.view n c.args.command.now c.args.now e.told)

pub returns-clause-right : goal.returns-clause-right
returns-clause-right g c = let n = c.draw_as-number.result in let e = c.draw_as-number.ensures in
    at_view (λ (v : View g.row.C.Denot). last_right (n + 1) v.rights ≡ n ∷ []) c.draw_as-number.new.self c.self.inside.member.office (after_draw c.self.inside.member.view n c.args.command.now c.args.now) e.view
    (right_drawn g.C.Keyed.key (1099511627776 * c.self.inside.member.office.passes) c.self.inside.member.view n c.args.command.now c.args.now e.told)
