use Rattle.std.proofs.Common.{rules, sym, ◌∙◌, add-one}
use Rattle.std.proofs.lemmas.Bool.{or_left}
use Rattle.std.proofs.lemmas.List.{take_rest}
use Rattle.tab_http.proofs.HeaderLemmas.{closes_first, closes_whole}
use Rattle.tab_http.proofs.header_fields.says_close.Goals as goal

pub returns-in_default : goal.returns-in_default
returns-in_default c = c.is_close.ensures ∙ sym (closes_whole c.loop-comma.rest.now (search rules)) ∙ c.loop-comma.invariant

pub returns-then-is_close : goal.returns-then-is_close
returns-then-is_close c =
    let first = closes_first c.loop-comma.rest.now c.in-Some.comma (search rules) (search rules) (search rules) in
    sym (or_left _ _ (sym c.if-is_close.ensures)) ∙ sym first ∙ c.loop-comma.invariant

pub loop-comma-preserved : goal.loop-comma-preserved
loop-comma-preserved c =
    let first = closes_first c.loop-comma.rest.now c.in-Some.comma (search rules) (search rules) (search rules) in
    rw (take_rest, add-one) (sym (rw (sym c.if-is_close.ensures) at first) ∙ c.loop-comma.invariant)
