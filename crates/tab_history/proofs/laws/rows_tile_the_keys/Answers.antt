use Rattle.tab_history.proofs.ConfigurationLaws.{one_row, end_of_row, are_bounds}
use Rattle.tab_history.proofs.laws.rows_tile_the_keys.Goals as goal

pub returns-clause-one : goal.returns-clause-one
returns-clause-one c = one_row

pub returns-clause-end : goal.returns-clause-end
returns-clause-end c = end_of_row

pub returns-clause-bounds : goal.returns-clause-bounds
returns-clause-bounds c = are_bounds
