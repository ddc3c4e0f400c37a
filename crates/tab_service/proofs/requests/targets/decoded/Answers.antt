use Rattle.std.proofs.Common.{◌∙◌, subst, sym}
use Rattle.std.specs.Str.{IsUtf8}
use Rattle.tab_service.proofs.TextLemmas.{text_found, text_missing, utf8_is_no_memory}
use Rattle.tab_service.proofs.requests.targets.decoded.Goals as goal

pub returns-in-Ok : goal.returns-in-Ok
returns-in-Ok c =
    text_found _ _ (c.in-Ok.ensures.value ∙ c.percent_decode.ensures.bytes)
    (subst IsUtf8 c.percent_decode.ensures.bytes c.in-Ok.ensures.ok_only_if_utf8)

pub returns-in-Err-Utf8 : goal.returns-in-Err-Utf8
returns-in-Err-Utf8 c =
    text_missing _
    (λ utf8. utf8_is_no_memory _ _ c.in-Err-Utf8.field-0-is (c.in-Err-Utf8.ensures.utf8 (subst IsUtf8 (sym c.percent_decode.ensures.bytes) utf8)))
