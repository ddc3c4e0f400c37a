use Rattle.std.proofs.lemmas.Result.{on_ok_weaker}
use Rattle.tab_codec.proofs.Sums.{in_two}
use Rattle.tab_codec.specs.Spelling.{body}
use Rattle.tab_codec.proofs.writing.put_whole.Goals as goal

pub returns-clause-bytes : goal.returns-clause-bytes
unfolding body
returns-clause-bytes c = on_ok_weaker c.put_u64-2.result (λ e. in_two _ _ _ _ _ c.in_ok-put_u64.ensures e) c.put_u64-2.ensures
