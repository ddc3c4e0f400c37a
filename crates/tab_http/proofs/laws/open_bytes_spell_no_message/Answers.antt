use Rattle.tab_http.proofs.MessageLemmas.{open_spells_none}
use Rattle.tab_http.proofs.laws.open_bytes_spell_no_message.Goals as goal

pub returns : goal.returns
returns c = λ bytes message rest is_open spells. open_spells_none bytes message rest is_open spells
