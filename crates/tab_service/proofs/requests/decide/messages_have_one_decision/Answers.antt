use Rattle.tab_service.proofs.RequestLaws.{messages_have_one_decision}
use Rattle.tab_service.proofs.requests.decide.messages_have_one_decision.Goals as goal

pub returns : goal.returns
returns c = messages_have_one_decision c.a_batch_has_one_answer.ensures
