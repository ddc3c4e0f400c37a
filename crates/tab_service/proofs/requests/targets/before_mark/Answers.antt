use Rattle.tab_service.proofs.PartLemmas.{cut_off}
use Rattle.tab_service.proofs.requests.targets.before_mark.Goals as goal

pub returns : goal.returns
returns c = cut_off c.args.text.now c.args.mark.now c.strip_suffix.result c.strip_suffix.ensures.cases
