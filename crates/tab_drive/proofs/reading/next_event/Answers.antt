use Rattle.std.proofs.Common.{Err, refl, ap, sym, ◌∙◌}
use Rattle.tab_drive.specs.Lines.{line_text}
use Rattle.tab_drive.proofs.Events.{part_behind_call, part_of_line, part_to_line_end, reads_call, reads_end, reads_now, refused_call, refused_line}
use Rattle.tab_drive.proofs.Exits.{on_err, passed_on}
use Rattle.tab_drive.proofs.Spellings.{no_event_no_line}
use Rattle.tab_drive.proofs.Told.{told_weaker}
use Rattle.tab_drive.proofs.reading.next_event.Goals as goal

pub returns-in_err-line-clause-refused : goal.returns-in_err-line-clause-refused
returns-in_err-line-clause-refused g c = λ was.
    told_weaker _ _ _ (c.in_err-line.ensures.refused (ap Err (passed_on _ _ _ c.from_residual.ensures.1 was))) no_event_no_line

pub returns-in_err-line-clause-part : goal.returns-in_err-line-clause-part
returns-in_err-line-clause-part g c = on_err _ (part_of_line _ _ c.in_err-line.ensures.part)

pub returns-in_default-clause-refused : goal.returns-in_default-clause-refused
returns-in_default-clause-refused g c = λ _. refused_line _ _ _ c.in_ok-line.ensures.read (rw c.deref.ensures.value at (c.in_default.ensures.none refl))

pub returns-in_default-clause-part : goal.returns-in_default-clause-part
returns-in_default-clause-part g c = part_to_line_end _ _ _ c.in_ok-line.ensures.read (rw c.deref.ensures.value at (c.in_default.ensures.none refl))

pub returns-in-End-clause-read : goal.returns-in-End-clause-read
returns-in-End-clause-read g c = reads_end _ _ _ c.in_ok-line.ensures.read (sym c.deref.ensures.value ∙ c.in-Some.ensures.some.0 ∙ ap line_text c.in-End.is)

pub returns-in-Now-clause-read : goal.returns-in-Now-clause-read
returns-in-Now-clause-read g c =
    let said = rw c.in-Now.is at c.in-Some.ensures.some in
    (said.1, reads_now _ _ _ _ c.in_ok-line.ensures.read (sym c.deref.ensures.value ∙ said.0))

pub returns-in_err-message-in-Call-clause-refused : goal.returns-in_err-message-in-Call-clause-refused
returns-in_err-message-in-Call-clause-refused g c = λ was.
    let said = rw c.in-Call.is at c.in-Some.ensures.some in
    refused_call _ _ _ _ c.in_ok-line.ensures.read (sym c.deref.ensures.value ∙ said.0) said.1
    (c.in_err-message-in-Call.ensures.refused (ap Err (passed_on _ _ _ c.from_residual-in_err-message-in-Call.ensures.1 was)))

pub returns-in_err-message-in-Call-clause-part : goal.returns-in_err-message-in-Call-clause-part
returns-in_err-message-in-Call-clause-part g c =
    let said = rw c.in-Call.is at c.in-Some.ensures.some in
    on_err _ (part_behind_call _ _ _ _ _ c.in_ok-line.ensures.read (sym c.deref.ensures.value ∙ said.0) said.1 c.in_err-message-in-Call.ensures.part)

pub returns-clause-read : goal.returns-clause-read
returns-clause-read g c =
    let said = rw c.in-Call.is at c.in-Some.ensures.some in
    reads_call _ _ _ _ _ _ c.in_ok-line.ensures.read (sym c.deref.ensures.value ∙ said.0) said.1 c.in_ok-message-in-Call.ensures.read
