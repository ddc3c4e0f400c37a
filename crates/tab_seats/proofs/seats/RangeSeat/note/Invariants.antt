use Rattle.std.proofs.Common.{◌*◌, ◌^◌, None}
use Rattle.tab_keys.specs.declared.bounds.Bound.TheVariants.{End}
use Rattle.tab_seats.proofs.seats.RangeSeat.note.Given as goal

abbrev pub ghosts-note_as : goal.ghosts-note_as
ghosts-note_as g a = record { command = None; now = 0; bound = 2 ^ 40 * a.self.now.office.passes; at = End }
