use Rattle.std.proofs.Common.{List, ℕ, sym, subst}
use Rattle.tab_codec.specs.Reading.{frame_at}
use Rattle.tab_codec.specs.Answers.{Answers}
use Rattle.tab_codec.proofs.NumberSteps.{first_of}
use Rattle.tab_codec.proofs.reading.read_front.Goals as goal

pub returns-in-len1-up : goal.returns-in-len1-up
returns-in-len1-up c =
    subst (λ (bytes : List ℕ). Answers c.read_behind_kind.result (frame_at bytes)) (sym (first_of c.args.bytes.now c.in-len1-up.len_at_least)) c.read_behind_kind.ensures
