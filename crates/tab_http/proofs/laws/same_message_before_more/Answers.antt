use Rattle.tab_http.proofs.MessageLemmas.{spells_more}
use Rattle.tab_http.proofs.laws.same_message_before_more.Goals as goal

pub returns : goal.returns
returns c = λ bytes more message rest spells. spells_more bytes more message rest spells
