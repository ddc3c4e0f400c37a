use Rattle.tab_http.proofs.MessageLemmas.{bytes_spell_some_answer}
use Rattle.tab_http.proofs.laws.bytes_spell_some_answer.Goals as goal

pub returns : goal.returns
returns c = λ bytes none. bytes_spell_some_answer bytes none
