use Rattle.std.proofs.Common.{◌≡◌, List, ℕ, take, sym, subst}
use Rattle.std.specs.Int.{w32, from_be_bytes}
use Rattle.tab_codec.proofs.NumberSteps.{number_reads}
use Rattle.tab_codec.proofs.fields.read_u32.Goals as goal

pub returns : goal.returns
returns c =
    let call = c.from_be_bytes-number in
    let n : from_be_bytes w32 (take 4 c.args.bytes.now) ≡ call.result = subst (λ (front : List ℕ). from_be_bytes w32 front ≡ call.result) c.split_at.ensures.front (sym call.ensures) in
    rw (← n, c.split_at.ensures.back) (number_reads w32 c.args.bytes.now c.if-bytes-lt4.false)
