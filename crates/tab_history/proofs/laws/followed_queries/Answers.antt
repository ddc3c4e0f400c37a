use Rattle.tab_history.proofs.FollowedLaws.{followed_well}
use Rattle.tab_history.proofs.laws.followed_queries.Goals as goal

pub returns : goal.returns
returns c = followed_well
