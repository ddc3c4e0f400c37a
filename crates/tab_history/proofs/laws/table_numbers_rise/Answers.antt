use Rattle.tab_history.proofs.NumberLaws.{numbers_rise}
use Rattle.tab_history.proofs.laws.table_numbers_rise.Goals as goal

pub returns : goal.returns
returns c = numbers_rise
