use Rattle.std.proofs.Common.{◌≡◌, ℕ, ◌≤◌, ◌^◌, get_or, length, List, refl, sym, ap, arith}
use Rattle.tab_edm.specs.Moments.{last_digits}
use Rattle.tab_edm.proofs.Digits.{last_digits_none, read_more, read_all, small_power, digit_at}
use Rattle.tab_edm.proofs.moments.read_number.Goals as goal

pub loop-digit-init : goal.loop-digit-init
loop-digit-init c = (omega arith, sym (last_digits_none 0))

pub returns-then-not-is_ascii_digit : goal.returns-then-not-is_ascii_digit
returns-then-not-is_ascii_digit c =
    λ n small is. let h = digit_at (length c.args.digits.now) n c.loop-digit.digit-index c.loop-digit-test.true in
    let same : get_or c.args.digits.now c.loop-digit.digit-index 0 ≡ get_or (last_digits (length c.args.digits.now) n) c.loop-digit.digit-index 0 = ap (λ (l : List ℕ). get_or l c.loop-digit.digit-index 0) is in
    let outside = c.if-not-is_ascii_digit.ensures.cases in omega arith

pub overflow_mul-n : goal.overflow_mul-n
overflow_mul-n c =
    let bound : 10 ^ c.loop-digit.digit-index ≤ 1_000_000 = small_power c.loop-digit.digit-index (omega arith) in
    omega arith

pub overflow_add-n : goal.overflow_add-n
overflow_add-n c =
    let bound : 10 ^ c.loop-digit.digit-index ≤ 1_000_000 = small_power c.loop-digit.digit-index (omega arith) in
    let inside = c.if-not-is_ascii_digit.ensures.cases in
    omega arith

pub loop-digit-preserved : goal.loop-digit-preserved
loop-digit-preserved c =
    let inside = c.if-not-is_ascii_digit.ensures.cases in
    read_more c.args.digits.now c.loop-digit.digit-index c.loop-digit.n _ c.loop-digit-test.true refl inside.0 inside.1 c.loop-digit.invariant.0 c.loop-digit.invariant.1

pub returns : goal.returns
returns c = read_all c.args.digits.now c.loop-digit.digit-index c.loop-digit.n (omega arith) c.loop-digit.invariant.0 c.loop-digit.invariant.1
