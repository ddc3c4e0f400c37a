use Rattle.std.proofs.Common.{◌<◌, length, sym, arith}
use Rattle.tab_master.proofs.ListingLaws.{next_told, nothing_told}
use Rattle.tab_master.proofs.listing.Listing.told.Goals as goal

pub loop-frame-init : goal.loop-frame-init
loop-frame-init c = sym nothing_told

pub loop-frame-preserved : goal.loop-frame-preserved
loop-frame-preserved c =
    let within : c.loop-frame.frame-index < length c.args.frames.now = omega arith in
    next_told c.args.frames.now c.loop-frame.frame-index c.frame-item.result c.loop-frame.listing _ within c.frame-item.is c.loop-frame.invariant c.in_ok-listing.ensures
