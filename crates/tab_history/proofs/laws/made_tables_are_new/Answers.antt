use Rattle.tab_history.proofs.NumberLaws.{made_new}
use Rattle.tab_history.proofs.laws.made_tables_are_new.Goals as goal

pub returns : goal.returns
returns c = made_new
