use Rattle.std.proofs.Common.{rules, ◌≡◌, Err}
use Rattle.tab_server.proofs.SettlingLaws.{checks_refused, checks_on}
use Rattle.tab_server.proofs.server.Server.checkpoint.Goals as goal

pub returns-in_err-settle-clause-rewrites : goal.returns-in_err-settle-clause-rewrites
returns-in_err-settle-clause-rewrites g c =
    let same : c.from_residual.result ≡ Err c.in_err-settle.field-0.0 = search rules in
    checks_refused g.T.Tally.drew g.T.Tally.ready g.T.Tally.kin g.D.Disk.watch g.D.Disk.honest g.D.Disk.faults c.args.self.now c.settle.new.self c.settle.result c.from_residual.result c.in_err-settle.field-0.0
    c.settle.ensures.settles c.in_err-settle.was same

pub returns-clause-rewrites : goal.returns-clause-rewrites
returns-clause-rewrites g c =
    checks_on g.T.Tally.drew g.T.Tally.ready g.T.Tally.kin g.D.Disk.watch g.D.Disk.honest g.D.Disk.faults c.args.self.now c.settle.new.self c.rewrite.new.self c.settle.result c.rewrite.result c.in_ok-settle.field-0
    c.settle.ensures.settles c.in_ok-settle.was c.rewrite.ensures.rewrites
