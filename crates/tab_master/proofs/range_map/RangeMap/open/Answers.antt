use Rattle.std.proofs.Common.{Option, List, ap, sym, subst}
use Rattle.std.specs.Prelude.{MatchOption}
use Rattle.tab_codec.specs.declared.frames.Frame.{Frame}
use Rattle.tab_journal.specs.Areas.{AreFrames}
use Rattle.tab_master.specs.Spelled.{map_kind}
use Rattle.tab_master.specs.Maps.{MapView, SpellNoMap, GoesOnFrom}
use Rattle.tab_master.specs.RangeMaps.{MapKept}
use Rattle.tab_master.proofs.range_map.RangeMap.open.Goals as goal

pub read-requires : goal.read-requires
read-requires g c = record { are = subst (AreFrames map_kind) (sym c.deref.ensures.value) c.in-Ok.ensures.are }

pub returns-clause-exact : goal.returns-clause-exact
returns-clause-exact g c honest =
    let opened : GoesOnFrom c.args.servers c.deref.result.now c.in-Some.held =
    subst (λ (o : Option MapView). MatchOption o (SpellNoMap c.args.servers c.deref.result.now) (GoesOnFrom c.args.servers c.deref.result.now)) c.in-Some.is c.in-Ok-read.ensures in
    let held = ap (λ (k : MapKept _). k.held) (sym c.new.ensures.view) in (
      _,
      c.in-Ok.ensures.exact honest,
      subst (λ (l : List Frame). GoesOnFrom c.args.servers l c.new.result.held) c.deref.ensures.value (subst (GoesOnFrom c.args.servers c.deref.result.now) held opened),
    )
