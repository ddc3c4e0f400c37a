use Rattle.tab_drive.proofs.Decisions.{signed_calls}
use Rattle.tab_drive.proofs.laws.calls_are_signed.Goals as goal

pub returns : goal.returns
returns c = signed_calls c.requests_are_signed.ensures
