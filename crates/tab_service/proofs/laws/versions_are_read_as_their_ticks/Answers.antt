use Rattle.tab_service.proofs.VersionLaws.{version_is_read}
use Rattle.tab_service.proofs.laws.versions_are_read_as_their_ticks.Goals as goal

pub returns : goal.returns
returns c = version_is_read
