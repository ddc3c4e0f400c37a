use Rattle.std.proofs.Common.{subst, sym}
use Rattle.tab_codec.specs.Spelling.{body}
use Rattle.tab_codec.specs.Frames.{IsShort}
use Rattle.tab_codec.specs.declared.frames.Frame.TheVariants as frames
use Rattle.tab_master.proofs.CheckpointLaws.{create_short}
use Rattle.tab_master.proofs.content.create_frame.Goals as goal

pub prepare-requires-clause-short : goal.prepare-requires-clause-short
prepare-requires-clause-short c =
    subst (λ n. IsShort (body (frames.Create c.args.table n))) (sym c.in_ok-try_copy.ensures) (create_short c.args.table c.args.name.now c.as_str-text.ensures.name)
