use Rattle.tab_drive.proofs.Spellings.{event_not_end, one_event}
use Rattle.tab_drive.proofs.schedule.one_spelling.Goals as goal

pub returns-clause-event : goal.returns-clause-event
returns-clause-event c = one_event

pub returns-clause-end : goal.returns-clause-end
returns-clause-end c = event_not_end
