use Rattle.tab_codec.proofs.FrameLaws.{one_frame}
use Rattle.tab_codec.proofs.laws.no_spelling_begins_another.Goals as goal

pub returns : goal.returns
returns c = one_frame
