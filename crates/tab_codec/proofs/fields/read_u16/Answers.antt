use Rattle.std.proofs.Common.{◌≡◌, List, ℕ, take, sym, subst}
use Rattle.std.specs.Int.{w16, from_be_bytes}
use Rattle.tab_codec.proofs.NumberSteps.{number_reads}
use Rattle.tab_codec.proofs.fields.read_u16.Goals as goal

pub returns : goal.returns
returns c =
    let call = c.from_be_bytes in
    let n : from_be_bytes w16 (take 2 c.args.bytes.now) ≡ call.result = subst (λ (front : List ℕ). from_be_bytes w16 front ≡ call.result) c.split_at.ensures.front (sym call.ensures) in
    rw (← n, c.split_at.ensures.back) (number_reads w16 c.args.bytes.now c.if-bytes-lt2.false)
