use Rattle.tab_codec.proofs.FrameLaws.{spelled_reads}
use Rattle.tab_codec.proofs.laws.only_spellings_are_read.Goals as goal

pub returns : goal.returns
returns c = spelled_reads
