use Rattle.tab_page.proofs.PrefixLaws.{prefix_is}
use Rattle.tab_page.proofs.page_rule.page_prefix.Goals as goal

pub returns : goal.returns
returns c = λ test top most rows. prefix_is test top most rows
