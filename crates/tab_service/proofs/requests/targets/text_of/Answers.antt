use Rattle.std.proofs.Common.{true≢false, sym}
use Rattle.std.proofs.lemmas.Str.{IsUtf8-string_bytes}
use Rattle.tab_service.proofs.TextLemmas.{text_found, text_missing}
use Rattle.tab_service.proofs.requests.targets.text_of.Goals as goal

pub returns : goal.returns
returns c = text_missing _ (λ utf8. absurd (true≢false (sym (c.in-Err.ensures.succeeds utf8))))

pub returns-in-Ok : goal.returns-in-Ok
returns-in-Ok c = rw (← c.in-Ok.ensures.ok) (text_found _ _ c.new.ensures (IsUtf8-string_bytes c.in-Ok.text))
