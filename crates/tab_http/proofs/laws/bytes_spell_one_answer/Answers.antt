use Rattle.tab_http.proofs.MessageLemmas.{bytes_spell_one_answer}
use Rattle.tab_http.proofs.laws.bytes_spell_one_answer.Goals as goal

pub returns : goal.returns
returns c = λ bytes a b p q. bytes_spell_one_answer bytes a b p q
