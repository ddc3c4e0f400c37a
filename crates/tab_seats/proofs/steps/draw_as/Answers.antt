use Rattle.std.proofs.Common.{◌*◌, ap, arith}
use Rattle.tab_seats.proofs.Moves.{one_word, draw_asks}
use Rattle.tab_seats.proofs.steps.draw_as.Goals as goal

pub fetch_add-requires : goal.fetch_add-requires
fetch_add-requires g c = (
  c.requires.table.0,
  one_word c.args.seat.now.table_id.words c.args.table.now.shared.table_id.words (ap (λ t. t.words) c.requires.table.0) c.requires.table.1,
  draw_asks g.C.Keyed.key (1099511627776 * c.args.table.now.shared.key.passes) g.J.StepName.command g.J.StepName.now g.J.StepName.bound c.args.table.now.shared.table_id.slots c.args.seat.now.id
      c.requires.inside.0 c.args.seat.now.me c.args.command.now c.args.now c.requires.table.2 c.requires.named.0 c.requires.named.1 c.requires.named.2 c.requires.inside.1 c.requires.inside.2 c.requires.permit (let h = c.requires.few in omega arith),
)
