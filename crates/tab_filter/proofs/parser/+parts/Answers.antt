use Rattle.std.proofs.Common.{subst, sym}
use Rattle.tab_filter.specs.Lexer.{Parses, Read}
use Rattle.tab_filter.specs.Parser.{PartView, part_view}
use Rattle.tab_filter.proofs.Opens.{opened}
use Rattle.tab_filter.proofs.parser.+parts.Goals as goal

pub group-returns-clause-reads : goal.group-returns-clause-reads
group-returns-clause-reads t c =
    subst (λ (read : Read PartView). Parses (λ x. (part_view x.0, x.1.now)) c.grouped.result read)
    (sym (opened c.args.depth c.args.used c.args.text.now c.args.rest.now c.after_spaces.result.now c.if-depth-eq0.false c.after_spaces.ensures))
    c.grouped.ensures.reads
