use Rattle.std.proofs.Common.{◌*◌, ap}
use Rattle.tab_seats.proofs.Moves.{one_word, notes}
use Rattle.tab_seats.proofs.steps.note.Goals as goal

pub split_seat-requires : goal.split_seat-requires
split_seat-requires g c = (
  c.requires.table.0,
  one_word c.args.seat.now.table_id.words c.args.table.now.shared.table_id.words (ap (λ t. t.words) c.requires.table.0) c.requires.table.1,
  notes g.C.Keyed.key (1099511627776 * c.args.table.now.shared.key.passes) c.args.seat.now.id c.args.seat.now.me.0,
)
