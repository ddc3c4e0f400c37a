use Rattle.tab_http.proofs.HeadLemmas.{whole_found}
use Rattle.tab_http.proofs.heads.Head.read.Goals as goal

pub returns : goal.returns
returns c = whole_found c.args.bytes.now c.min-size.result c.read_front.result c.min-size.ensures c.read_front.ensures
