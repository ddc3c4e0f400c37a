use Rattle.std.proofs.Common.{sym, ap, ◌∙◌}
use Rattle.std.specs.Str.{is_utf8}
use Rattle.tab_codec.specs.Reading.{sized_at}
use Rattle.tab_codec.proofs.FieldLaws.{done}
use Rattle.tab_codec.proofs.TextLaws.{allowed_gives, refused_gives, utf8_passes, utf8_fails}
use Rattle.tab_codec.proofs.fields.read_text.Goals as goal

pub returns-in-Ok : goal.returns-in-Ok
returns-in-Ok c =
    let text = c.in-Ok.ensures.cases in
    allowed_gives is_utf8 sized_at c.args.bytes.now c.in_ok-text.text.now c.in_ok-text.rest.now c.in_ok-text.ensures (utf8_passes c.in_ok-text.text.now text.1)
    ∙ ap (λ t. done t c.in_ok-text.rest.now) (sym text.0)

pub returns-in-Err : goal.returns-in-Err
returns-in-Err c =
    refused_gives is_utf8 sized_at c.args.bytes.now c.in_ok-text.text.now c.in_ok-text.rest.now c.in_ok-text.ensures (utf8_fails c.in_ok-text.text.now c.in-Err.ensures.cases.0)
