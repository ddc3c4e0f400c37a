use Rattle.std.proofs.lemmas.Result.{on_ok_weaker}
use Rattle.tab_codec.proofs.Sums.{in_two, of_text}
use Rattle.tab_codec.specs.Spelling.{body}
use Rattle.tab_codec.proofs.writing.put_create.Goals as goal

pub returns-clause-bytes : goal.returns-clause-bytes
unfolding body
returns-clause-bytes c = on_ok_weaker c.put_sized.result (λ e. in_two _ _ _ _ _ c.in_ok-put_u64.ensures (of_text _ _ _ _ _ c.as_bytes.ensures.value c.as_str.ensures.text e)) c.put_sized.ensures
