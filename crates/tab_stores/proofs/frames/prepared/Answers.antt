use Rattle.std.proofs.Common.{sym, subst}
use Rattle.tab_codec.specs.Frames.{IsShort}
use Rattle.tab_codec.specs.Spelling.{body}
use Rattle.tab_stores.specs.CountLaws.{are_frames}
use Rattle.tab_stores.proofs.frames.prepared.Goals as goal

pub prepare-requires-clause-short : goal.prepare-requires-clause-short
prepare-requires-clause-short c = subst (λ f. IsShort (body f)) (sym c.in_ok-frame.ensures) (are_frames c.args.range c.ranges.range.fits).spelled.0.short
