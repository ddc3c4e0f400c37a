use Rattle.std.proofs.Common.{◌∷◌, [], Some}
use Rattle.std.proofs.lemmas.Slice.Eq.{strip_prefix_is}
use Rattle.std.proofs.lemmas.Bool.Decides.{Decides-eqb}
use Rattle.tab_auth.proofs.Fronts.{two_fronts}
use Rattle.tab_auth.proofs.claims.after_account.Goals as goal

pub returns : goal.returns
returns c =
    let middle = c.in_ok-strip_prefix.field-0 in
    two_fronts c.args.account.now c.args.path.now middle.now c.strip_prefix-2.result
    (strip_prefix_is Decides-eqb c.args.path.now (47 ∷ []) (Some middle) c.in_ok-strip_prefix.ensures.cases)
    (strip_prefix_is Decides-eqb middle.now c.args.account.now c.strip_prefix-2.result c.strip_prefix-2.ensures.cases)
