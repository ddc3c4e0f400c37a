use Rattle.std.proofs.Common.{◌≡◌, ◌++◌, ◌∙◌, List, ℕ, sym, ap, codes, arith}
use Rattle.tab_auth.proofs.Fronts.{no_scheme, after_scheme, cut_claim}
use Rattle.tab_auth.proofs.claims.read_claim.Goals as goal

pub returns-in_err-strip_prefix : goal.returns-in_err-strip_prefix
returns-in_err-strip_prefix c =
    rw c.from_residual.ensures (no_scheme c.args.authorization.now c.in_err-strip_prefix.ensures.cases)

pub returns : goal.returns
returns c =
    let cut = c.in_ok-strip_prefix.ensures.cases in
    let credentials = c.in_ok-strip_prefix.field-0 in
    let opened : c.args.authorization.now ≡ codes "SharedKeyLite " ++ credentials.now = cut.1.1 ∙ ap (λ (rest : List ℕ). codes "SharedKeyLite " ++ rest) (sym cut.2) in
    cut_claim c.args.authorization.now credentials.now c.split_once.result (after_scheme _ _ opened) (c.split_once.ensures.byte (omega arith) (λ w o f. f))
