use Rattle.tab_page.proofs.TokenLaws.{one_spelling}
use Rattle.tab_page.proofs.tokens.tokens_have_one_spelling.Goals as goal

pub returns : goal.returns
returns c = one_spelling
