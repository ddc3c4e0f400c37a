use Rattle.std.proofs.Common.{◌∙◌, sym}
use Rattle.tab_service.proofs.TextLemmas.{part_at_front}
use Rattle.tab_service.proofs.requests.formats.has_part.Goals as goal

pub returns-then-starts_with : goal.returns-then-starts_with
returns-then-starts_with c = sym (c.loop-rest.invariant ∙ part_at_front _ _ (sym c.starts_with.ensures.value ∙ c.if-starts_with.true))
