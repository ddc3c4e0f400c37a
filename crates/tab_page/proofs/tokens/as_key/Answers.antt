use Rattle.std.proofs.Common.{ap, sym, ◌∙◌, Some}
use Rattle.tab_keys.specs.KeyTexts.{key_refusal}
use Rattle.tab_page.proofs.TokenLaws.{as_key-is, as_key-no_text}
use Rattle.tab_page.proofs.tokens.as_key.Goals as goal

pub returns-in_default : goal.returns-in_default
returns-in_default c = sym (as_key-no_text c.args.bytes.now c.in_default.ensures.cases.0)

pub returns-in-Ok-new : goal.returns-in-Ok-new
returns-in-Ok-new c =
    let text = c.in-Ok.ensures.cases in
    let key = c.in-Ok-new.ensures in
    ap Some (key.0 ∙ text.0) ∙ sym (as_key-is c.args.bytes.now text.1 (ap key_refusal (sym text.0) ∙ key.1))
