use Rattle.std.proofs.Common.{sym, ap, ◌∙◌}
use Rattle.tab_codec.specs.Reading.{sized_at, is_key_text}
use Rattle.tab_codec.proofs.FieldLaws.{done}
use Rattle.tab_codec.proofs.TextLaws.{allowed_gives, refused_gives, no_key_text, key_text_passes}
use Rattle.tab_codec.proofs.fields.read_key_text.Goals as goal

pub returns-in_default : goal.returns-in_default
returns-in_default c =
    refused_gives is_key_text sized_at c.args.bytes.now c.in_ok-text.text.now c.in_ok-text.rest.now c.in_ok-text.ensures (no_key_text c.in_ok-text.text.now c.in_default.ensures.cases.0)

pub returns-in-Ok-new : goal.returns-in-Ok-new
returns-in-Ok-new c =
    let text = c.in-Ok.ensures.cases in
    let made = c.in-Ok-new.ensures in
    allowed_gives is_key_text sized_at c.args.bytes.now c.in_ok-text.text.now c.in_ok-text.rest.now c.in_ok-text.ensures (key_text_passes c.in_ok-text.text.now c.in-Ok.text.now text.0 text.1 made.1)
    ∙ ap (λ t. done t c.in_ok-text.rest.now) (sym (made.0 ∙ text.0))
