use Rattle.std.proofs.Common.{◌∙◌, ap, List, ℕ}
use Rattle.tab_auth.specs.Checks.{open_refusal}
use Rattle.tab_service.specs.Signing.{signed_by, signed_of}
use Rattle.tab_service.proofs.AuthLemmas.{path_alone}
use Rattle.tab_service.proofs.requests.decide.denial.Goals as goal

pub returns-in-None : goal.returns-in-None
unfolding signed_by signed_of
returns-in-None c =
    c.open_refusal.ensures
    ∙ (ap (λ (account : List ℕ). open_refusal account c.args.path.now) c.as_str.ensures.text
    ∙ (ap (open_refusal c.args.keys.now.account) c.requires.path
    ∙ path_alone c.args.keys.now (signed_of c.args.message.now) c.args.now c.in-None.is))
