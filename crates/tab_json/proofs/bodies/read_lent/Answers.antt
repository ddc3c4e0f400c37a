use Rattle.std.proofs.Common.{ap, sym, ◌∙◌}
use Rattle.serde_json.specs.Read.{read}
use Rattle.tab_json.specs.Lent.{lent_object}
use Rattle.tab_json.proofs.Json.{json_read}
use Rattle.tab_json.proofs.LentLemmas.{found_weaker}
use Rattle.tab_json.proofs.bodies.read_lent.Goals as goal

pub returns-in-Ok : goal.returns-in-Ok
returns-in-Ok c =
    found_weaker _ _ c.read_text.result
    (λ members is. json_read c.args.bytes.now (lent_object members) c.in-Ok.ensures.cases.1 (ap read (sym c.in-Ok.ensures.cases.0) ∙ is)) c.read_text.ensures
