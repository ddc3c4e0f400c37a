use Rattle.tab_service.proofs.RequestLaws.{requests_are_in_form}
use Rattle.tab_service.proofs.requests.decide.requests_are_in_form.Goals as goal

pub returns : goal.returns
returns c = requests_are_in_form
