use Rattle.tab_service.proofs.AddressLaws.{keys_are_read}
use Rattle.tab_service.proofs.laws.keys_are_read_where_spelled.Goals as goal

pub returns : goal.returns
returns c = keys_are_read
