use Rattle.std.proofs.Common.{rules, ◌≡◌, ◌+◌, subst}
use Rattle.std.specs.Prelude.{OnOk}
use Rattle.tab_journal.specs.KeptCauses.{AfterCheckpoint}
use Rattle.tab_server.specs.Serving.{ServerView}
use Rattle.tab_server.proofs.SettlingLaws.{IsPassedOn, IsSpent, rewrites_so}
use Rattle.tab_server.proofs.server.Server.rewrite.Goals as goal

pub returns-clause-rewrites : goal.returns-clause-rewrites
returns-clause-rewrites g c =
    let passed : IsPassedOn c.checkpoint.result c.match-checkpoint.result = search rules in
    rewrites_so g.T.Tally.drew g.T.Tally.ready g.T.Tally.kin g.D.Disk.watch g.D.Disk.honest g.D.Disk.faults c.args.self.now c.checkpoint.new.self c.checkpoint.result c.match-checkpoint.result passed
    (subst (λ k. AfterCheckpoint k c.checkpoint.new.self c.checkpoint.result) c.self.view_is c.checkpoint.ensures.after)
    (subst (λ (k : ServerView g.row.D.Denot g.row.T.Denot). OnOk c.checkpoint.result (c.checkpoint.new.self.store.epoch ≡ k.store.epoch + 1)) c.self.view_is c.checkpoint.ensures.epoch)
    (subst (λ (k : ServerView g.row.D.Denot g.row.T.Denot). IsSpent k c.checkpoint.result) c.self.view_is c.checkpoint.ensures.spent) c.checkpoint.ensures.ok (search rules) (search rules)
