use Rattle.std.proofs.Common.{◌*◌, ◌^◌, Some}
use Rattle.tab_keys.specs.declared.bounds.Bound.TheVariants.{End}
use Rattle.tab_seats.proofs.seats.RangeSeat.draw.Given as goal

abbrev pub ghosts-draw_as : goal.ghosts-draw_as
ghosts-draw_as g a = record { command = Some a.command.now; now = a.now; bound = 2 ^ 40 * a.self.now.office.passes; at = End }
