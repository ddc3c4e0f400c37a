use Rattle.tab_seats.proofs.Moves.{seven}
use Rattle.tab_seats.proofs.laws.seven_parts.Goals as goal

pub returns : goal.returns
returns g c bound words views kept = seven g.C.Keyed.key bound words views kept
