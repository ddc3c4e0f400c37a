use Rattle.std.proofs.Common.{rules, subst}
use Rattle.tab_journal.specs.Stores.{IsSameStore}
use Rattle.tab_server.specs.Serving.{ServerView}
use Rattle.tab_server.proofs.SettlingLaws.{IsPassedOn, settles_so}
use Rattle.tab_server.proofs.server.Server.settle.Goals as goal

pub returns-clause-settles : goal.returns-clause-settles
returns-clause-settles g c =
    let passed : IsPassedOn c.settle.result c.match-settle.result = search rules in
    settles_so g.T.Tally.drew g.T.Tally.ready g.T.Tally.kin g.D.Disk.watch g.D.Disk.honest g.D.Disk.faults c.args.self.now c.settle.new.self c.settle.result c.match-settle.result passed
    (search rules) (search rules) (subst (λ (v : ServerView g.row.D.Denot g.row.T.Denot). IsSameStore v.store c.settle.new.self.store) c.self.view_is c.settle.ensures.same) (search rules) (search rules) (search rules) (search rules) c.settle.ensures.damaged c.settle.ensures.never
