use Rattle.tab_page.proofs.ContinuationLaws.{read_alone}
use Rattle.tab_page.proofs.laws.tokens_are_handed_back.Goals as goal

pub returns : goal.returns
returns c = read_alone
