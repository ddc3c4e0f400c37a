use Rattle.tab_batch.proofs.AnswerLemmas.{a_batch_has_some_answer}
use Rattle.tab_batch.proofs.laws.a_batch_has_some_answer.Goals as goal

pub returns : goal.returns
returns c = a_batch_has_some_answer
