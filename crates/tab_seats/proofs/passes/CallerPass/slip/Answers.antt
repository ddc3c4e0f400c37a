use Rattle.std.proofs.Common.{◌-◌, ap}
use Rattle.tab_seats.specs.Logs.{next_number}
use Rattle.tab_seats.specs.Views.{less_permits}
use Rattle.tab_seats.proofs.Holders.{at_view, HoldsPass, pass_less}
use Rattle.tab_seats.proofs.passes.CallerPass.slip.Goals as goal

pub new-requires : goal.new-requires
new-requires g c = (next_number c.self.inside.member.view.log, ap (λ m. m.view) c.in_ok-member.ensures.ok.0)

pub invariant_of-self-2 : goal.invariant_of-self-2
invariant_of-self-2 g c =
    at_view (HoldsPass (c.self.inside.permits - 1) c.self.inside.calls) c.slip.new.self c.self.inside.member.office (less_permits 1 c.self.inside.member.view) c.in_ok-member.ensures.ok.1
    (pass_less 1 c.self.inside.member.view c.self.invariant.0, ap (λ n. n - 1) c.self.invariant.1, c.self.invariant.2)
