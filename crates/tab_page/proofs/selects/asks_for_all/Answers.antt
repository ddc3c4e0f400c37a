use Rattle.std.proofs.Common.{sym, ◌∙◌, string_bytes}
use Rattle.tab_page.proofs.SelectLaws.{some_ask}
use Rattle.tab_page.proofs.selects.asks_for_all.Goals as goal

pub returns-else-is_empty : goal.returns-else-is_empty
returns-else-is_empty c = some_ask string_bytes c.args.names.now c.has_text.result (sym c.is_empty.ensures ∙ c.if-is_empty.false) c.has_text.ensures
