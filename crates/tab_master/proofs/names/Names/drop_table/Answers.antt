use Rattle.std.proofs.Common.{rules, ◌≡◌, Err}
use Rattle.tab_master.specs.NamesCalls.{SettlesNames, Drops}
use Rattle.tab_master.proofs.NamesCallLaws.{drops_then, refused_first, then_own}
use Rattle.tab_master.proofs.names.Names.drop_table.Goals as goal

pub returns-in_err-settle-clause-after : goal.returns-in_err-settle-clause-after
returns-in_err-settle-clause-after g c =
    let settles : SettlesNames g.D.Disk.watch g.D.Disk.honest c.args.self.now c.settle.new.self c.settle.result =
    record { after = c.settle.ensures.after; same = c.settle.ensures.running; store = c.settle.ensures.same; sound = c.settle.ensures.sound; images_a = c.settle.ensures.images_a; images_b = c.settle.ensures.images_b } in
    let same : c.from_residual.result ≡ Err c.in_err-settle.field-0.0 = search rules in
    refused_first (Unit {0}) g.D.Disk.watch g.D.Disk.honest (λ mid. Drops g.D.Disk.watch g.D.Disk.honest c.args.name.now c.args.self.now mid c.settle.new.self c.from_residual.result) c.args.self.now c.settle.new.self c.settle.result c.in_err-settle.field-0.0 c.from_residual.result settles c.in_err-settle.was same

pub returns-clause-after : goal.returns-clause-after
returns-clause-after g c =
    let settles : SettlesNames g.D.Disk.watch g.D.Disk.honest c.args.self.now c.settle.new.self c.settle.result =
    record { after = c.settle.ensures.after; same = c.settle.ensures.running; store = c.settle.ensures.same; sound = c.settle.ensures.sound; images_a = c.settle.ensures.images_a; images_b = c.settle.ensures.images_b } in
    then_own (Unit {0}) g.D.Disk.watch g.D.Disk.honest (λ mid. Drops g.D.Disk.watch g.D.Disk.honest c.args.name.now c.args.self.now mid c.take.new.self c.take.result) c.args.self.now c.settle.new.self c.take.new.self c.settle.result c.in_ok-settle.field-0 c.take.result settles c.in_ok-settle.was
    (drops_then (Unit {0}) g.D.Disk.watch g.D.Disk.honest c.args.name.now c.args.self.now c.settle.new.self c.take.new.self c.settle.result c.take.result settles c.take.ensures.drops)
