use Rattle.std.proofs.Common.{◌*◌, ap}
use Rattle.tab_seats.proofs.Moves.{one_word, copy_asks}
use Rattle.tab_seats.proofs.steps.copy_as.Goals as goal

pub load-requires : goal.load-requires
load-requires g c = (
  c.requires.table.0,
  one_word c.args.seat.now.table_id.words c.args.table.now.shared.table_id.words (ap (λ t. t.words) c.requires.table.0) c.requires.table.1,
  (let n = c.requires.seated in copy_asks g.C.Keyed.key (1099511627776 * c.args.table.now.shared.key.passes) g.J.StepName.bound c.args.table.now.shared.table_id.slots c.args.seat.now.id n.0 c.args.seat.now.me c.requires.table.2 c.requires.named n.1),
)
