use Rattle.tab_batch.proofs.RequestLemmas.{head_of_more, no_head_of_more}
use Rattle.tab_batch.proofs.requests.read_head.Goals as goal

pub returns-in-Some : goal.returns-in-Some
returns-in-Some c = head_of_more c.args.part.now c.in-Some.head (rw c.in-Some.is at c.in_ok-head.ensures)

pub returns-then-part-ge-LONGEST_HEAD : goal.returns-then-part-ge-LONGEST_HEAD
returns-then-part-ge-LONGEST_HEAD c = no_head_of_more c.args.part.now (rw c.in_default.is at c.in_ok-head.ensures) c.if-part-ge-LONGEST_HEAD.true
