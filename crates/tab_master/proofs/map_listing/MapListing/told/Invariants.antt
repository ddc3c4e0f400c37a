use Rattle.std.proofs.Common.{◌≡◌, take}
use Rattle.tab_master.specs.MapListing.{map_listed}
use Rattle.tab_master.proofs.map_listing.MapListing.told.Given as goal

abbrev pub invariant-loop-frame : goal.invariant-loop-frame
invariant-loop-frame l = l.listing ≡ map_listed (take l.frame-index l.frames)
