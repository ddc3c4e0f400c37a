use Rattle.std.proofs.Common.{◌*◌, ◌-◌, ap}
use Rattle.tab_seats.specs.Views.{everything}
use Rattle.tab_seats.proofs.offices.Office.open.Goals as goal

pub new-requires : goal.new-requires
new-requires g c = (everything, 1099511627776 * c.args.passes - 1099511627776 * c.loop-i._i, ap (λ m. m.view) c.loop-i.invariant.0)
