use Rattle.tab_service.proofs.RequestLaws.{messages_have_some_decision}
use Rattle.tab_service.proofs.laws.messages_have_some_decision.Goals as goal

pub returns : goal.returns
returns c = messages_have_some_decision c.a_batch_has_some_answer.ensures
