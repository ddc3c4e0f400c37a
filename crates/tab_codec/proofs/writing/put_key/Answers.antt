use Rattle.std.proofs.lemmas.Result.{on_ok_weaker}
use Rattle.tab_codec.proofs.Sums.{in_three, of_text}
use Rattle.tab_codec.specs.Spelling.{key_spelling}
use Rattle.tab_codec.proofs.writing.put_key.Goals as goal

pub returns-clause-bytes : goal.returns-clause-bytes
unfolding key_spelling
returns-clause-bytes c = on_ok_weaker c.put_sized-2.result
    (λ e. in_three _ _ _ _ _ _ _ c.in_ok-put_u64.ensures (of_text _ _ _ _ _ c.as_bytes.ensures.value c.as_str.ensures.text c.in_ok-put_sized.ensures)
    (of_text _ _ _ _ _ c.as_bytes-2.ensures.value c.as_str-2.ensures.text e)) c.put_sized-2.ensures
