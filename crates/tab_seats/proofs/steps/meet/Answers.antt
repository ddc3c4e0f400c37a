use Rattle.std.proofs.Common.{◌*◌, ap}
use Rattle.tab_seats.proofs.Moves.{one_word, meets}
use Rattle.tab_seats.proofs.steps.meet.Goals as goal

pub join_seat-requires : goal.join_seat-requires
join_seat-requires g c = (
  c.requires.table.0,
  c.requires.other.0,
  c.requires.other.1,
  one_word c.args.seat.now.table_id.words c.args.table.now.shared.table_id.words (ap (λ t. t.words) c.requires.table.0) c.requires.table.1,
  meets g.C.Keyed.key (1099511627776 * c.args.table.now.shared.key.passes) c.args.seat.now.id c.args.other.id c.args.seat.now.me.0 c.args.other.me.0,
)
