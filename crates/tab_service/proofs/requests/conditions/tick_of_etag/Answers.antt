use Rattle.tab_service.proofs.ConditionLemmas.{tick_read}
use Rattle.tab_service.proofs.requests.conditions.tick_of_etag.Goals as goal

pub returns : goal.returns
returns c = tick_read c.args.text.now _ c.read_etag.ensures
