use Rattle.std.proofs.Common.{rules, ◌∙◌, arith, sym, subst}
use Rattle.tab_http.proofs.Exits.{passed_on}
use Rattle.tab_http.proofs.ReadingLemmas.{gathered_more, open_without_head, read_refused}
use Rattle.tab_http.specs.Messages.{IsOpen}
use Rattle.tab_http.specs.Reading.{ReadRefused}
use Rattle.tab_http.proofs.read_ahead.read_to_limit.Goals as goal

pub returns-in_err-read_more-clause-gathered : goal.returns-in_err-read_more-clause-gathered
returns-in_err-read_more-clause-gathered g c =
    let there = open_without_head _ _ _ c.loop-piece.carry.items c.requires c.loop-piece.invariant.gathered (search rules) in
    gathered_more _ _ _ _ c.loop-piece.carry.items _ c.loop-piece.invariant.gathered there c.read_more.ensures.moved (omega (arith, c.read_more.ensures.little))

pub returns-in_err-read_more-clause-refused : goal.returns-in_err-read_more-clause-refused
returns-in_err-read_more-clause-refused g c =
    let there = open_without_head _ _ _ c.loop-piece.carry.items c.requires c.loop-piece.invariant.gathered (search rules) in
    passed_on (ReadRefused c.read_more.new.carry.items) _ c.in_err-read_more.field-0.0 c.from_residual.ensures.1 (read_refused _ _ c.in_err-read_more.ensures.refused (subst IsOpen (sym c.in_err-read_more.ensures.kept) there))

pub returns-then-not-branch-clause-gathered : goal.returns-then-not-branch-clause-gathered
returns-then-not-branch-clause-gathered g c =
    let there = open_without_head _ _ _ c.loop-piece.carry.items c.requires c.loop-piece.invariant.gathered (search rules) in
    gathered_more _ _ _ _ c.loop-piece.carry.items _ c.loop-piece.invariant.gathered there c.read_more.ensures.moved (omega (arith, c.read_more.ensures.little))

pub loop-piece-preserved : goal.loop-piece-preserved
loop-piece-preserved g c =
    let there = open_without_head _ _ _ c.loop-piece.carry.items c.requires c.loop-piece.invariant.gathered (search rules) in
    record {
      gathered = gathered_more _ _ _ _ c.loop-piece.carry.items _ c.loop-piece.invariant.gathered there c.read_more.ensures.moved (omega (arith, c.read_more.ensures.little));
      later = omega (arith, c.loop-piece.invariant.later, c.read_more.ensures.later);
      beside = c.read_more.ensures.beside ∙ c.loop-piece.invariant.beside;
    }
