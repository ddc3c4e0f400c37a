use Rattle.tab_http.proofs.TakenLemmas.{told}
use Rattle.tab_http.proofs.reading.read_message.Goals as goal

pub returns-clause-all : goal.returns-clause-all
returns-clause-all g c = told _ _ _ _ c.take_message.result c.take_message.ensures.read c.take_message.ensures.refused
