use Rattle.std.proofs.Common.{arith}
use Rattle.tab_service.proofs.PartLemmas.{cut_at}
use Rattle.tab_service.proofs.requests.targets.opened.Goals as goal

pub returns : goal.returns
returns c = cut_at 40 c.args.segment.now c.split_once.result (c.split_once.ensures.byte (omega arith) (λ w o f. f))
