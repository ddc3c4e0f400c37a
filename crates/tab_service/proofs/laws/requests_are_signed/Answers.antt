use Rattle.tab_service.proofs.RequestLaws.{requests_are_signed}
use Rattle.tab_service.proofs.laws.requests_are_signed.Goals as goal

pub returns : goal.returns
returns c = requests_are_signed
