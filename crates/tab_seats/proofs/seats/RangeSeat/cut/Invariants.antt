use Rattle.std.proofs.Common.{None}
use Rattle.tab_seats.proofs.seats.RangeSeat.cut.Given as goal

abbrev pub ghosts-cut_as : goal.ghosts-cut_as
ghosts-cut_as g a = record { command = None; now = 0; bound = 0; at = a.at.now }
