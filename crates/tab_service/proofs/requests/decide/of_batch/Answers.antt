use Rattle.std.proofs.Common.{Ok, Err, refl}
use Rattle.std.proofs.lemmas.Result.{IfOk-weaker}
use Rattle.tab_service.proofs.requests.decide.of_batch.Goals as goal

pub returns-in-Ok : goal.returns-in-Ok
returns-in-Ok c = (Ok c.in-Ok.request, c.in-Ok.ensures, refl)

pub returns-in-Err-Why : goal.returns-in-Err-Why
returns-in-Err-Why c = IfOk-weaker c.refused.result _ _ (λ decided is. (Err c.in-Err-Why.part, rw c.in-Err-Why.field-0-is at c.in-Err-Why.ensures, is)) c.refused.ensures
