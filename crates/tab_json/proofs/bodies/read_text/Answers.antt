use Rattle.std.proofs.Common.{◌≡◌, ◌∙◌}
use Rattle.json.specs.Value.{value_view}
use Rattle.serde_json.specs.Read.{read, of_json}
use Rattle.tab_json.proofs.LentLemmas.{known_found, found_weaker}
use Rattle.tab_json.proofs.bodies.read_text.Goals as goal

pub returns-in-Ok-Some : goal.returns-in-Ok-Some
returns-in-Ok-Some c =
    let known = known_found (λ value. read c.args.text.now ≡ of_json (value_view value)) c.in-Ok-Some.field-0 c.in-Ok-Some.value c.in-Ok-Some.field-0-is c.in-Ok-Some.ensures in
    found_weaker _ _ c.members_of.result (λ members is. known ∙ is) c.members_of.ensures
