use Rattle.tab_service.proofs.FollowLaws.{followed_by_page}
use Rattle.tab_service.proofs.laws.pages_are_followed_by_their_headers.Goals as goal

pub returns : goal.returns
returns c = followed_by_page
