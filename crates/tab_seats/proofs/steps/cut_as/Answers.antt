use Rattle.std.proofs.Common.{◌≡◌, ◌*◌, true, sym, ap, subst}
use Rattle.tab_keys.specs.Order.{bound_lt}
use Rattle.tab_seats.proofs.Moves.{one_word, cuts}
use Rattle.tab_seats.proofs.steps.cut_as.Goals as goal

pub split_seat-requires : goal.split_seat-requires
split_seat-requires g c = (
  c.requires.table.0,
  one_word c.args.seat.now.table_id.words c.args.table.now.shared.table_id.words (ap (λ t. t.words) c.requires.table.0) c.requires.table.1,
  (let n = c.requires.inside in let at = c.requires.named in cuts g.C.Keyed.key (1099511627776 * c.args.table.now.shared.key.passes) c.args.seat.now.id g.J.StepName.at n.0 c.args.seat.now.me.0 n.1 (subst (λ b. bound_lt n.0.lo b ≡ true) (sym at) n.2) (subst (λ b. bound_lt b n.0.hi ≡ true) (sym at) n.3)),
)
