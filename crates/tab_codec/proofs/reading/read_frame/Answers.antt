use Rattle.std.proofs.Common.{arith}
use Rattle.tab_codec.proofs.FrameLaws.{answers_tell}
use Rattle.tab_codec.proofs.reading.read_frame.Goals as goal

pub returns-clause-spelled : goal.returns-clause-spelled
returns-clause-spelled c = answers_tell c.args.bytes.now c.read_front.result (λ i. omega (arith, c.type_inv.bytes i)) c.read_front.ensures
