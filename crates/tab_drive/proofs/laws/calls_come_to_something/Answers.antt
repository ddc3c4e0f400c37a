use Rattle.tab_drive.proofs.Decisions.{some_decision}
use Rattle.tab_drive.proofs.laws.calls_come_to_something.Goals as goal

pub returns : goal.returns
returns c = some_decision c.bytes_spell_some_answer.ensures c.bytes_spell_no_fault.ensures.fault c.bytes_spell_no_fault.ensures.memory c.messages_have_some_decision.ensures
