use Rattle.std.proofs.Common.{arith}
use Rattle.std.proofs.lemmas.Grind.{common_steps}
use Rattle.tab_http.proofs.DecimalLemmas.{none_spells_none, sign_spells_none, zero_spells_none, decimal_utf8, parsed_decimal, unparsed_decimal}
use Rattle.tab_http.proofs.decimals.read_decimal.Goals as goal
use Rattle.tab_http.proofs.decimals.read_decimal.Goals.{then-first-eq43-via-then-first-eq43, then-first-eq43-via-else-first-eq43+then-not-is_empty, then-first-eq48, else-first-eq48}

pub returns-in_err-first-clause-none : goal.returns-in_err-first-clause-none
returns-in_err-first-clause-none c = λ _. none_spells_none _ c.in_err-first.ensures.cases

pub returns-then-first-eq43-clause-none : goal.returns-then-first-eq43-clause-none
returns-then-first-eq43-clause-none c = λ _.
    elim c.then-first-eq43.branch [
      | then-first-eq43-via-then-first-eq43 w ↦ sign_spells_none _ _ _ c.in_ok-first.ensures.cases.0 w.if-first-eq43.true
      | then-first-eq43-via-else-first-eq43+then-not-is_empty w ↦ elim w.if-first-eq48.branch [
        | then-first-eq48 v ↦ zero_spells_none _ _ _ c.in_ok-first.ensures.cases.0 v.if-first-eq48.true (grind (arith, common_steps))
        | else-first-eq48 v ↦ (λ _ _ _. grind (arith, common_steps))
      ]
    ]

pub returns-in_default-clause-none : goal.returns-in_default-clause-none
returns-in_default-clause-none c = λ _ n small spelled. c.in_default.ensures.cases.0 (decimal_utf8 _ n small spelled)

pub returns-clause-some : goal.returns-clause-some
returns-clause-some c =
    let text = c.in-Ok.ensures.cases.0 in
    let parses = rw text at c.parse.ensures.value.0 in
    parsed_decimal _ _ _ _ _ parses c.ok.ensures.value c.in_ok-first.ensures.cases.0 c.if-first-eq43.false
    (λ naught. elim c.if-first-eq48.branch [
      | then-first-eq48 v ↦ grind (arith, common_steps)
      | else-first-eq48 v ↦ absurd (v.if-first-eq48.false naught)
    ])

pub returns-clause-none : goal.returns-clause-none
returns-clause-none c =
    let text = c.in-Ok.ensures.cases.0 in
    let parses = rw text at c.parse.ensures.value.0 in
    unparsed_decimal _ _ _ parses c.ok.ensures.value
