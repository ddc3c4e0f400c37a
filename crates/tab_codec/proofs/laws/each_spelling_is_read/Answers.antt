use Rattle.tab_codec.proofs.FrameLaws.{frame_again}
use Rattle.tab_codec.proofs.laws.each_spelling_is_read.Goals as goal

pub returns : goal.returns
returns c = frame_again
