use Rattle.std.proofs.Common.{◌∙◌, ap, sym, drop, ◌+◌}
use Rattle.tab_service.specs.Batches.{Operations, operations_from}
use Rattle.tab_service.proofs.BatchLemmas.{behind, read_part, stopped_part, all_read}
use Rattle.tab_service.proofs.requests.batches.operations_of.Goals as goal

pub returns-in-Err : goal.returns-in-Err
returns-in-Err c =
    rw (c.of_part.ensures, c.loop-index.invariant)
    (stopped_part c.loop-index.index c.args.account.now c.args.messages.now c.index-messages-index.result c.loop-index.operations c.in-Err.refused c.loop-index-test.true c.index-messages-index.is c.in-Err.ensures)

pub loop-index-preserved : goal.loop-index-preserved
loop-index-preserved c =
    c.loop-index.invariant
    ∙ read_part c.loop-index.index c.args.account.now c.args.messages.now c.index-messages-index.result c.loop-index.operations c.in-Ok.part c.loop-index-test.true c.index-messages-index.is (sym c.in-Ok.ensures)
    ∙ ap (λ (front : Operations). behind front (operations_from (c.loop-index.index + 1) c.args.account.now (drop (c.loop-index.index + 1) c.args.messages.now))) (sym c.in_ok-push-in-Ok.ensures)

pub returns : goal.returns
returns c = c.loop-index.invariant ∙ all_read c.loop-index.index c.args.account.now c.args.messages.now c.loop-index.operations c.loop-index-test.false
