use Rattle.tab_page.proofs.TopLaws.{reads_decimals}
use Rattle.tab_page.proofs.queries.top_is_a_decimal.Goals as goal

pub returns : goal.returns
returns c = reads_decimals
