use Rattle.std.proofs.Common.{rules}
use Rattle.tab_http.proofs.BodyLemmas.{body_taken}
use Rattle.tab_http.proofs.bodies.read_body.Goals as goal

pub returns-clause-body : goal.returns-clause-body
returns-clause-body g c =
    rw c.new.ensures (body_taken _ _ c.args.carry.now.items c.in-Ok.body.items c.fill.new.into.items _ c.args.start c.args.size c.min.result (search rules) (search rules) c.fill.ensures.moved (search rules) c.cut_front.ensures)
