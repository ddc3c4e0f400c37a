use Rattle.tab_service.proofs.AddressLaws.{rows_are_read}
use Rattle.tab_service.proofs.laws.rows_are_read_where_spelled.Goals as goal

pub returns : goal.returns
returns c = rows_are_read
