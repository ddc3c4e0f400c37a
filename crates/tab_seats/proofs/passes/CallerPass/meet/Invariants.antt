use Rattle.std.proofs.Common.{◌*◌, ◌^◌, None}
use Rattle.tab_keys.specs.declared.bounds.Bound.TheVariants.{End}
use Rattle.tab_seats.proofs.passes.CallerPass.meet.Given as goal

abbrev pub ghosts-check_as : goal.ghosts-check_as
ghosts-check_as g a = record { command = None; now = 0; bound = 2 ^ 40 * a.self.now.office.passes; at = End }
