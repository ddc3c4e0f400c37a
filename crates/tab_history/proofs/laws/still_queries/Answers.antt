use Rattle.tab_history.proofs.StillLaws.{followed_still}
use Rattle.tab_history.proofs.laws.still_queries.Goals as goal

pub returns : goal.returns
returns c = followed_still
