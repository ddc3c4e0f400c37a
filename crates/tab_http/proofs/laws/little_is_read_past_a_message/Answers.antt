use Rattle.tab_http.proofs.PastLemmas.{little_past}
use Rattle.tab_http.proofs.laws.little_is_read_past_a_message.Goals as goal

pub returns : goal.returns
returns c = little_past
