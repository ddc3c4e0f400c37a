use Rattle.std.proofs.Common.{◌≡◌, take}
use Rattle.tab_journal.specs.Fitting.{told_by}
use Rattle.tab_master.specs.Spelled.{names_kind}
use Rattle.tab_master.specs.Listing.{listing_of}
use Rattle.tab_master.proofs.listing.Listing.told.Given as goal

abbrev pub invariant-loop-frame : goal.invariant-loop-frame
invariant-loop-frame l = l.listing ≡ listing_of (told_by names_kind (take l.frame-index l.frames))
