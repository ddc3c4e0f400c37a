use Rattle.tab_codec.proofs.NumberSteps.{byte_reads, no_byte}
use Rattle.tab_codec.proofs.fields.read_byte.Goals as goal

pub returns-in-empty : goal.returns-in-empty
returns-in-empty c = no_byte c.args.bytes.now c.in-empty.len_below

pub returns-in-len1-up : goal.returns-in-len1-up
returns-in-len1-up c = byte_reads c.args.bytes.now c.in-len1-up.len_at_least
