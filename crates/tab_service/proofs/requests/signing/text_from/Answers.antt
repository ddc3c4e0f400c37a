use Rattle.std.proofs.Common.{◌∙◌}
use Rattle.tab_service.proofs.TextLemmas.{text_found, text_missing}
use Rattle.tab_service.proofs.requests.signing.text_from.Goals as goal

pub returns-in_default : goal.returns-in_default
returns-in_default c = text_missing c.args.bytes.now c.in_default.ensures.cases.0

pub returns : goal.returns
returns c = text_found c.args.bytes.now c.in_ok-owned.field-0 (c.in_ok-owned.ensures ∙ c.in-Ok.ensures.cases.0) c.in-Ok.ensures.cases.1
