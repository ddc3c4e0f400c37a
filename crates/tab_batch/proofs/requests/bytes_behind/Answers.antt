use Rattle.std.proofs.lemmas.List.{take_rest}
use Rattle.tab_batch.proofs.RequestLemmas.{drop_least}
use Rattle.tab_batch.proofs.requests.bytes_behind.Goals as goal

pub returns : goal.returns
returns c = rw (c.new.ensures, c.in_ok-from_slice.ensures.items, take_rest, c.min-start.ensures) (drop_least c.args.size c.args.bytes.now)
