use Rattle.tab_service.proofs.FollowLaws.{followed_by_list}
use Rattle.tab_service.proofs.laws.lists_are_followed_by_their_header.Goals as goal

pub returns : goal.returns
returns c = followed_by_list
