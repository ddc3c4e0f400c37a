use Rattle.std.proofs.Common.{rules, ◌≡◌, Err}
use Rattle.tab_master.specs.NamesCalls.{SettlesNames, RewritesNames}
use Rattle.tab_master.proofs.NamesCallLaws.{refused_first, then_own}
use Rattle.tab_master.proofs.names.Names.checkpoint.Goals as goal

pub returns-in_err-settle-clause-after : goal.returns-in_err-settle-clause-after
returns-in_err-settle-clause-after g c =
    let settles : SettlesNames g.D.Disk.watch g.D.Disk.honest c.args.self.now c.settle.new.self c.settle.result =
    record { after = c.settle.ensures.after; same = c.settle.ensures.running; store = c.settle.ensures.same; sound = c.settle.ensures.sound; images_a = c.settle.ensures.images_a; images_b = c.settle.ensures.images_b } in
    let same : c.from_residual.result ≡ Err c.in_err-settle.field-0.0 = search rules in
    refused_first (Unit {0}) g.D.Disk.watch g.D.Disk.honest (λ mid. RewritesNames g.D.Disk.watch g.D.Disk.honest mid c.settle.new.self c.from_residual.result) c.args.self.now c.settle.new.self c.settle.result c.in_err-settle.field-0.0 c.from_residual.result settles c.in_err-settle.was same

pub returns-clause-after : goal.returns-clause-after
returns-clause-after g c =
    let settles : SettlesNames g.D.Disk.watch g.D.Disk.honest c.args.self.now c.settle.new.self c.settle.result =
    record { after = c.settle.ensures.after; same = c.settle.ensures.running; store = c.settle.ensures.same; sound = c.settle.ensures.sound; images_a = c.settle.ensures.images_a; images_b = c.settle.ensures.images_b } in
    then_own (Unit {0}) g.D.Disk.watch g.D.Disk.honest (λ mid. RewritesNames g.D.Disk.watch g.D.Disk.honest mid c.rewrite.new.self c.rewrite.result) c.args.self.now c.settle.new.self c.rewrite.new.self c.settle.result c.in_ok-settle.field-0 c.rewrite.result settles c.in_ok-settle.was
    c.rewrite.ensures.rewrites
