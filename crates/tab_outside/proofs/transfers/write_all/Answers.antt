use Rattle.std.proofs.Common.{◌∙◌, arith, rules}
use Rattle.std.proofs.KnownBytes.{Appends-trans}
use Rattle.std.proofs.lemmas.List.{take_rest}
use Rattle.std.proofs.Math.Seq.{take-add}
use Rattle.tab_outside.proofs.transfers.write_all.Goals as goal

pub loop-done-preserved : goal.loop-done-preserved
loop-done-preserved g c = record {
  within = search rules;
  taken = rw take-add (Appends-trans _ _ _ _ _ c.loop-done.invariant.taken (rw take_rest at c.in_ok-count.ensures.bytes));
  later = omega (arith, c.loop-done.invariant.later, c.in_ok-count.ensures.cause.later);
  beside = c.in_ok-count.ensures.beside ∙ c.loop-done.invariant.beside;
}
