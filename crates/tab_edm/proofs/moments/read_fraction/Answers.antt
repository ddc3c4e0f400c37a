use Rattle.std.proofs.Common.{◌≡◌, ◌+◌, ◌-◌, length, arith, refl, sym, ◌∙◌}
use Rattle.std.proofs.lemmas.Bool.{false≢true}
use Rattle.std.specs.Cmp.Lexicographic.{same_text, other_text}
use Rattle.tab_edm.specs.Moments.{text_of_fraction}
use Rattle.tab_edm.proofs.Readings.{fraction_fields, fraction_read, scaled}
use Rattle.tab_edm.proofs.moments.read_fraction.Goals as goal
use Rattle.tab_edm.proofs.moments.read_fraction.Goals.{then-length-lt3-via-then-length-lt3, then-length-lt3-via-else-length-lt3+then-length-gt9, then-length-lt3-via-else-length-lt3+else-length-gt9+then-not-has_at, then-length-lt3-via-else-length-lt3+else-length-gt9+else-not-has_at+then-not-has_at-2}

pub returns-then-eq : goal.returns-then-eq
unfolding text_of_fraction
returns-then-eq c =
    (0, 0, omega arith, omega arith, same_text c.args.text.now c.as_slice.result.now c.if-eq.ensures ∙ c.as_slice.ensures, refl)

pub returns-then-length-lt3 : goal.returns-then-length-lt3
returns-then-length-lt3 c = λ count fraction count_in fraction_in is.
    let f = fraction_fields c.args.text.now count fraction (λ e. other_text c.args.text.now c.as_slice.result.now c.if-eq.ensures (e ∙ sym c.as_slice.ensures)) is in
    let some = f.0 in
    let long = f.1.long in
    let end : length c.args.text.now - 1 ≡ count + 1 = omega arith in
    elim c.then-length-lt3.branch [
      | then-length-lt3-via-then-length-lt3 w ↦ omega arith
      | then-length-lt3-via-else-length-lt3+then-length-gt9 w ↦ omega arith
      | then-length-lt3-via-else-length-lt3+else-length-gt9+then-not-has_at w ↦ false≢true (w.if-not-has_at.ensures.1 f.1.dot)
      | then-length-lt3-via-else-length-lt3+else-length-gt9+else-not-has_at+then-not-has_at-2 w ↦ false≢true (w.if-not-has_at-2.ensures.1 (rw end f.1.zone))
    ]

pub returns-in_err-fraction : goal.returns-in_err-fraction
returns-in_err-fraction c =
    rw c.from_residual.ensures (λ count fraction count_in fraction_in is.
    let f = fraction_fields c.args.text.now count fraction (λ e. other_text c.args.text.now c.as_slice.result.now c.if-eq.ensures (e ∙ sym c.as_slice.ensures)) is in
    let digits : length c.args.text.now - 2 ≡ count = omega (arith, f.1.long) in
    c.in_err-fraction.ensures fraction (rw digits fraction_in) (rw digits f.1.digits))

pub overflow_mul-result : goal.overflow_mul-result
overflow_mul-result c =
    let rest : 9 - length c.args.text.now ≡ 7 - (length c.args.text.now - 2) = omega arith in
    let bound = scaled (length c.args.text.now - 2) c.in_ok-fraction.fraction (omega arith) c.in_ok-fraction.ensures.0 in
    rw (c.pow.ensures, rest) (omega arith)

pub returns : goal.returns
returns c =
    let rest : 9 - length c.args.text.now ≡ 7 - (length c.args.text.now - 2) = omega arith in (
      length c.args.text.now - 2,
      c.in_ok-fraction.fraction,
      omega arith,
      c.in_ok-fraction.ensures.0,
      fraction_read c.args.text.now c.in_ok-fraction.fraction c.if-length-lt3.false (c.if-not-has_at.ensures.0 refl) (c.if-not-has_at-2.ensures.0 refl) c.in_ok-fraction.ensures.1,
      rw (c.pow.ensures, rest) refl,
    )
