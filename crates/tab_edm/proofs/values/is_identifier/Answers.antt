use Rattle.std.proofs.Common.{sym, ◌∙◌, ap}
use Rattle.std.specs.Prelude.{length}
use Rattle.tab_edm.proofs.Names.{begun, not_begun, empty_name}
use Rattle.tab_edm.proofs.values.is_identifier.Goals as goal

pub returns-then-begins_name : goal.returns-then-begins_name
returns-then-begins_name c =
    begun _ _ c.in-Some.first _ c.utf8.name (sym c.chars-chars.ensures.rest ∙ c.in-Some.ensures.steps.0) (sym c.if-begins_name.ensures) (rw c.as_str.ensures at c.continues_name.ensures)

pub returns-else-begins_name : goal.returns-else-begins_name
returns-else-begins_name c =
    c.if-begins_name.false ∙ not_begun _ _ c.in-Some.first c.utf8.name (sym c.chars-chars.ensures.rest ∙ c.in-Some.ensures.steps.0) (sym c.if-begins_name.ensures)

pub returns-in-None : goal.returns-in-None
returns-in-None c = empty_name _ (ap length (sym c.chars-chars.ensures.rest) ∙ c.in-None.ensures.steps.0.0)
