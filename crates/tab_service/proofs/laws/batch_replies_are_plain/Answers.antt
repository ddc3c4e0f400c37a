use Rattle.tab_batch.proofs.PlainLemmas.{reply_boundary}
use Rattle.tab_service.proofs.PlainLaws.{batch_replies_are_plain}
use Rattle.tab_service.proofs.laws.batch_replies_are_plain.Goals as goal

pub returns-clause-plain : goal.returns-clause-plain
returns-clause-plain c = batch_replies_are_plain

pub returns-clause-boundary : goal.returns-clause-boundary
returns-clause-boundary c = reply_boundary
