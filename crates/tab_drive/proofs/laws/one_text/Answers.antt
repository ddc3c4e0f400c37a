use Rattle.tab_drive.proofs.Texts.{one_text, same_front}
use Rattle.tab_drive.proofs.laws.one_text.Goals as goal

pub returns-clause-text : goal.returns-clause-text
returns-clause-text c = one_text c.one_decision.ensures

pub returns-clause-front : goal.returns-clause-front
returns-clause-front c = same_front c.one_decision.ensures
