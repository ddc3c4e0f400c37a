use Rattle.std.proofs.Common.{◌∷◌, [], ◌∙◌, arith, length-append}
use Rattle.std.proofs.KnownBytes.{Consumes-trans}
use Rattle.tab_drive.proofs.Exits.{on_err}
use Rattle.tab_drive.proofs.OpenLines.{IsLine-push, no_line_inside, no_line_behind, open_line}
use Rattle.tab_drive.proofs.Told.{told_front, told_all}
use Rattle.tab_drive.proofs.reading.read_line.Goals as goal

pub returns-in_default-2-clause-refused : goal.returns-in_default-2-clause-refused
returns-in_default-2-clause-refused g c = λ _.
    let here = c.loop-line.invariant in
    let read = rw c.in_default-2.is at c.in_ok-byte.ensures.read in
    told_all _ _ _ _ _ here.consumed read.0 read.1 (no_line_inside _ here.is_line)

pub returns-then-len-eq-LONGEST_LINE-clause-refused : goal.returns-then-len-eq-LONGEST_LINE-clause-refused
returns-then-len-eq-LONGEST_LINE-clause-refused g c = λ _.
    let here = c.loop-line.invariant in
    let read = rw c.in-Some.is at c.in_ok-byte.ensures.read in
    told_front _ _ _ _ (Consumes-trans _ _ _ _ _ here.consumed read)
    (no_line_behind _ (IsLine-push _ _ here.is_line c.if-byte-eq10.false) (omega (arith, length-append c.loop-line.line.items (c.in-Some.byte ∷ []))))

pub returns-then-len-eq-LONGEST_LINE-clause-part : goal.returns-then-len-eq-LONGEST_LINE-clause-part
returns-then-len-eq-LONGEST_LINE-clause-part g c =
    let here = c.loop-line.invariant in
    open_line _ _ _ _ _ here.consumed (rw c.in-Some.is at c.in_ok-byte.ensures.read) here.is_line c.if-byte-eq10.false here.short

pub loop-line-preserved : goal.loop-line-preserved
loop-line-preserved g c =
    let here = c.loop-line.invariant in
    let read = rw c.in-Some.is at c.in_ok-byte.ensures.read in
    rw c.in_ok-push.ensures.items record {
      is_line = IsLine-push _ _ here.is_line c.if-byte-eq10.false;
      short = omega (arith, length-append c.loop-line.line.items (c.in-Some.byte ∷ []));
      consumed = Consumes-trans _ _ _ _ _ here.consumed read;
      later = omega (arith, c.in_ok-byte.ensures.cause.later);
      beside = c.in_ok-byte.ensures.beside ∙ here.beside;
    }

pub returns-in_err-push-clause-part : goal.returns-in_err-push-clause-part
returns-in_err-push-clause-part g c =
    let here = c.loop-line.invariant in
    on_err _ (open_line _ _ _ _ _ here.consumed (rw c.in-Some.is at c.in_ok-byte.ensures.read) here.is_line c.if-byte-eq10.false here.short)
