use Rattle.std.proofs.Common.{◌∙◌, ◌≤◌, length, arith, rules}
use Rattle.std.proofs.KnownBytes.{Consumes-trans}
use Rattle.tab_outside.proofs.Fronts.{read_behind}
use Rattle.tab_outside.proofs.transfers.read_full.Goals as goal

pub loop-done-preserved : goal.loop-done-preserved
loop-done-preserved g c =
    let fits : c.in-Ok.count ≤ length c.read.new.buf = rw c.read.auto.buf c.in-Ok.ensures.bound in
    record {
      within = search rules;
      read = rw (read_behind c.loop-done.buf c.read.new.buf _ c.loop-done.done c.in-Ok.count c.loop-done.invariant.within fits) (Consumes-trans _ _ _ _ _ c.loop-done.invariant.read c.in-Ok.ensures.bytes.0);
      later = omega (arith, c.loop-done.invariant.later, c.in-Ok.ensures.cause.later);
      beside = c.in-Ok.ensures.beside ∙ c.loop-done.invariant.beside;
    }
