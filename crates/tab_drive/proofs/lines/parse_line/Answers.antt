use Rattle.std.proofs.Common.{Some, codes, rules}
use Rattle.std.proofs.lemmas.Bool.Decides.{Decides-eqb}
use Rattle.std.proofs.lemmas.Slice.Eq.{strip_prefix_is}
use Rattle.tab_drive.proofs.LineTexts.{call_too_long}
use Rattle.tab_drive.proofs.lines.parse_line.Goals as goal

pub returns-else-size-le-LONGEST_MESSAGE-clause-none : goal.returns-else-size-le-LONGEST_MESSAGE-clause-none
returns-else-size-le-LONGEST_MESSAGE-clause-none c = λ _.
    call_too_long _ _ c.in_ok-size.size (strip_prefix_is Decides-eqb c.args.line.now (codes "call ") (Some c.in_ok-strip_prefix.field-0) c.in_ok-strip_prefix.ensures.cases) c.in_ok-size.ensures.some (search rules) c.if-size-le-LONGEST_MESSAGE.false
