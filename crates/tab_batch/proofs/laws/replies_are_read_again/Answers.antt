use Rattle.tab_batch.proofs.ReplyLemmas.{read_again}
use Rattle.tab_batch.proofs.laws.replies_are_read_again.Goals as goal

pub returns : goal.returns
returns c = read_again
