use Rattle.std.proofs.Common.{arith}
use Rattle.std.proofs.lemmas.Bool.{both_ways}
use Rattle.tab_keys.specs.Order.{bound_lt}
use Rattle.tab_codec.proofs.KeyLaws.{high_above}
use Rattle.tab_codec.proofs.keys.read_span_from.Goals as goal

pub returns-in-None : goal.returns-in-None
returns-in-None c =
    absurd (both_ways (bound_lt c.args.lo c.in_ok-hi.hi) c.in-None.ensures (high_above c.args.lo c.in_ok-hi.hi c.args.bytes.now c.in_ok-hi.rest.now (λ i. omega (arith, c.type_inv.bytes i)) c.in_ok-hi.ensures))
