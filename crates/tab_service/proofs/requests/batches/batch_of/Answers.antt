use Rattle.std.proofs.Common.{sym}
use Rattle.tab_service.proofs.AnswerLemmas.{answers-weaker}
use Rattle.tab_service.proofs.BatchLemmas.{batch_read, batch_unread}
use Rattle.tab_service.proofs.requests.batches.batch_of.Goals as goal

pub returns-in-Ok : goal.returns-in-Ok
returns-in-Ok c =
    answers-weaker _ _ c.batch_from.result
    (λ found is. batch_read c.args.account.now c.args.minimal c.args.message.now c.in-Some.boundary.now _ _ _ found c.in-Some.ensures c.as_slice.ensures.bytes c.deref.ensures.value c.in-Ok.ensures.read (sym is))
    c.batch_from.ensures

pub returns-in_ok-unread-in-Err : goal.returns-in_ok-unread-in-Err
returns-in_ok-unread-in-Err c =
    batch_unread c.args.account.now c.args.minimal c.args.message.now c.in-Some.boundary.now _ c.in-Err.why _ c.in-Some.ensures c.as_slice.ensures.bytes
    c.in-Err.ensures.refused c.in_ok-unread-in-Err.ensures.decided c.in_ok-unread-in-Err.ensures.refused
