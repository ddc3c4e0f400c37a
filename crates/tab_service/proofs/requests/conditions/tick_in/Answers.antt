use Rattle.std.proofs.Common.{◌∙◌, ap}
use Rattle.std.specs.Prelude.{option_and_then}
use Rattle.tab_service.specs.Conditions.{tick_of_etag, tick_in}
use Rattle.tab_service.proofs.TextLemmas.{text_found, text_missing}
use Rattle.tab_service.proofs.requests.conditions.tick_in.Goals as goal

pub returns-in_default : goal.returns-in_default
unfolding tick_in
returns-in_default c = ap (option_and_then tick_of_etag) (text_missing c.args.value.now c.in_default.ensures.cases.0)

pub returns : goal.returns
unfolding tick_in
returns c =
    c.tick_of_etag.ensures
    ∙ ap (option_and_then tick_of_etag) (text_found c.args.value.now c.in-Ok.text.now c.in-Ok.ensures.cases.0 c.in-Ok.ensures.cases.1)
