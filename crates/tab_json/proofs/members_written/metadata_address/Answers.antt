use Rattle.std.proofs.Common.{append_assoc}
use Rattle.tab_json.specs.Entities.{metadata_address}
use Rattle.tab_json.proofs.members_written.metadata_address.Goals as goal

pub returns-in_ok-format : goal.returns-in_ok-format
unfolding metadata_address
returns-in_ok-format c = λ minimal. simp append_assoc c.in_ok-format.ensures.ok
