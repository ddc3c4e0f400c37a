use Rattle.std.proofs.Common.{◌∙◌, ap, sym, List, ℕ}
use Rattle.tab_service.specs.Targets.{quoted}
use Rattle.tab_service.proofs.QuoteLemmas.{behind_bytes, goes_on, ended, unended, shorter}
use Rattle.tab_service.proofs.requests.targets.quoted.Goals as goal

pub loop-byte-smaller : goal.loop-byte-smaller
loop-byte-smaller c = shorter _ _ _ (sym c.in-Some.ensures)

pub loop-byte-preserved : goal.loop-byte-preserved
loop-byte-preserved c =
    goes_on _ _ _ _ _ c.loop-byte.invariant (sym c.in-Some.ensures) ∙ ap (λ (out : List ℕ). behind_bytes out (quoted c.in-Some.later.now)) (sym c.in-Ok.ensures.items)

pub returns-in-Some-past_quote : goal.returns-in-Some-past_quote
returns-in-Some-past_quote c = ended _ _ _ _ c.loop-byte.invariant (sym c.in_default.ensures) (sym c.in-Some-past_quote.ensures)

pub returns : goal.returns
returns c = unended _ _ _ c.loop-byte.invariant (sym c.in_default.ensures) (sym c.in-None.ensures)
