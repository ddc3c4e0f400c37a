use Rattle.tab_page.proofs.ContinuationLaws.{read_behind}
use Rattle.tab_page.proofs.laws.queries_go_on_where_tokens_say.Goals as goal

pub returns : goal.returns
returns c = read_behind
