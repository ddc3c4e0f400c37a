use Rattle.tab_journal.proofs.Covers.{same_covers}
use Rattle.tab_journal.proofs.laws.rows_that_agree_have_the_same_keys.Goals as goal

pub returns : goal.returns
returns c = same_covers
