use Rattle.std.proofs.Common.{◌<◌, length, sym, arith}
use Rattle.tab_master.proofs.MapListingLaws.{next_listed, nothing_listed}
use Rattle.tab_master.proofs.map_listing.MapListing.told.Goals as goal

pub loop-frame-init : goal.loop-frame-init
loop-frame-init c = sym nothing_listed

pub loop-frame-preserved : goal.loop-frame-preserved
loop-frame-preserved c =
    let within : c.loop-frame.frame-index < length c.args.frames.now = omega arith in
    next_listed c.args.frames.now c.loop-frame.frame-index c.frame-item.result c.loop-frame.listing _ within c.frame-item.is c.loop-frame.invariant c.in_ok-take.ensures
