use Rattle.std.proofs.Common.{rules, add-one}
use Rattle.tab_batch.proofs.LineLemmas.{first_line, whole_line}
use Rattle.tab_batch.proofs.lines.line_size.Goals as goal

pub returns-in-Some-clause-first : goal.returns-in-Some-clause-first
returns-in-Some-clause-first c = rw add-one (first_line c.args.bytes.now c.in-Some.index (search rules) (search rules) (search rules))

pub returns-in-None-clause-first : goal.returns-in-None-clause-first
returns-in-None-clause-first c = whole_line c.args.bytes.now c.requires (search rules)
