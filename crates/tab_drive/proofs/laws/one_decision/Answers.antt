use Rattle.tab_drive.proofs.Decisions.{one_decision}
use Rattle.tab_drive.proofs.laws.one_decision.Goals as goal

pub returns : goal.returns
returns c = one_decision c.bytes_spell_one_answer.ensures c.messages_have_one_decision.ensures
