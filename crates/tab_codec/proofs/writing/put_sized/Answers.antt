use Rattle.tab_codec.specs.Spelling.{sized}
use Rattle.std.proofs.lemmas.Result.{on_ok_weaker}
use Rattle.tab_codec.proofs.Sums.{appended, in_two}
use Rattle.tab_codec.proofs.writing.put_sized.Goals as goal

pub returns : goal.returns
unfolding sized
returns c = on_ok_weaker c.extend_from_slice.result (λ e. in_two _ _ _ _ _ c.in_ok-put_u32.ensures e) (appended c.extend_from_slice.result c.put_u32.new.out.items c.args.bytes.now c.extend_from_slice.new.self.items c.extend_from_slice.ensures.items)
