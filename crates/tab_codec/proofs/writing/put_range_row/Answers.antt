use Rattle.std.proofs.lemmas.Result.{on_ok_weaker}
use Rattle.tab_codec.proofs.Sums.{in_three}
use Rattle.tab_codec.specs.Spelling.{range_row_spelling}
use Rattle.tab_codec.proofs.writing.put_range_row.Goals as goal

pub returns-clause-bytes : goal.returns-clause-bytes
unfolding range_row_spelling
returns-clause-bytes c = on_ok_weaker c.put_span.result (λ e. in_three _ _ _ _ _ _ _ c.in_ok-put_u64.ensures c.in_ok-push.ensures.items e) c.put_span.ensures.bytes
