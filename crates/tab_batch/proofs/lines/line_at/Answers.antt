use Rattle.std.proofs.Common.{sym, ◌∙◌}
use Rattle.std.proofs.lemmas.List.{take_rest}
use Rattle.tab_batch.proofs.LineLemmas.{no_lines, next_line}
use Rattle.tab_batch.proofs.lines.line_at.Goals as goal

pub returns-then-is_empty-clause-cases : goal.returns-then-is_empty-clause-cases
returns-then-is_empty-clause-cases c = no_lines c.args.bytes.now c.args.at (rw take_rest at (sym c.if-is_empty.true ∙ c.is_empty.ensures))

pub returns-clause-cases : goal.returns-clause-cases
returns-clause-cases c =
    let size = c.line_size-size.ensures in
    next_line c.args.bytes.now c.args.at c.line_size-size.result c.without_end.result.now (rw take_rest at size.first) (rw take_rest at size.within) (rw take_rest at c.without_end.ensures.text)
