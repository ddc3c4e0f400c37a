use Rattle.std.proofs.lemmas.Result.{on_ok_weaker}
use Rattle.tab_codec.specs.Spelling.{body}
use Rattle.tab_codec.proofs.Sums.{in_four}
use Rattle.tab_codec.proofs.writing.put_map.Goals as goal

pub returns-clause-bytes : goal.returns-clause-bytes
unfolding body
returns-clause-bytes c = on_ok_weaker c.put_range_rows.result (λ e. in_four _ _ _ _ _ _ _ _ _ c.in_ok-put_u64.ensures c.in_ok-put_u64-2.ensures c.in_ok-put_u32.ensures e) c.put_range_rows.ensures.bytes
