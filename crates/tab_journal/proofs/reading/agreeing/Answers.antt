use Rattle.std.proofs.Common.{◌≡◌, ◌==◌, false, get_or, sym, ◌∙◌, arith, rules}
use Rattle.std.proofs.lemmas.Bool.Decides.{nat_tests}
use Rattle.tab_journal.proofs.Agreeing.{agree_more, agree_end, agree_other_end, agree_no_more}
use Rattle.tab_journal.proofs.reading.agreeing.Goals as goal

pub loop-count-preserved : goal.loop-count-preserved
loop-count-preserved c =
    let x = c.args.bytes.now in
    let y = c.args.others.now in
    let i = c.loop-count.count in
    let same : get_or x i 0 ≡ get_or y i 0 = search rules in
    record {
      within = omega arith;
      within_other = omega arith;
      rest = sym (agree_more x y i (omega arith) (omega arith) same) ∙ c.loop-count.invariant.rest;
    }

pub returns-else-bytes-count : goal.returns-else-bytes-count
returns-else-bytes-count c =
    let x = c.args.bytes.now in
    let y = c.args.others.now in
    let i = c.loop-count.count in
    let differ : (get_or x i 0 == get_or y i 0) ≡ false = grind (arith, nat_tests) in
    sym (agree_no_more x y i (omega arith) (omega arith) differ) ∙ c.loop-count.invariant.rest

pub returns-else-count-others : goal.returns-else-count-others
returns-else-count-others c = sym (agree_other_end c.args.bytes.now c.args.others.now c.loop-count.count (omega arith)) ∙ c.loop-count.invariant.rest

pub returns-after-loop-count : goal.returns-after-loop-count
returns-after-loop-count c = sym (agree_end c.args.bytes.now c.args.others.now c.loop-count.count (omega arith)) ∙ c.loop-count.invariant.rest
