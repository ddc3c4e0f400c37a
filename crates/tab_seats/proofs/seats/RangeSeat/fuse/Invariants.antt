use Rattle.std.proofs.Common.{◌*◌, ◌^◌, None}
use Rattle.tab_keys.specs.declared.bounds.Bound.TheVariants.{End}
use Rattle.tab_seats.proofs.seats.RangeSeat.fuse.Given as goal

abbrev pub ghosts-fuse_as : goal.ghosts-fuse_as
ghosts-fuse_as g a = record { command = None; now = 0; bound = 2 ^ 40 * a.self.now.office.passes; at = End }
