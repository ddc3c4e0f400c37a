use Rattle.std.proofs.Common.{rules, ◌≡◌, ℕ, Err}
use Rattle.tab_master.specs.NamesCalls.{SettlesNames, Creates}
use Rattle.tab_master.proofs.NamesCallLaws.{creates_then, refused_first, then_own}
use Rattle.tab_master.proofs.names.Names.create.Goals as goal

pub returns-in_err-settle-clause-after : goal.returns-in_err-settle-clause-after
returns-in_err-settle-clause-after g c =
    let settles : SettlesNames g.D.Disk.watch g.D.Disk.honest c.args.self.now c.settle.new.self c.settle.result =
    record { after = c.settle.ensures.after; same = c.settle.ensures.running; store = c.settle.ensures.same; sound = c.settle.ensures.sound; images_a = c.settle.ensures.images_a; images_b = c.settle.ensures.images_b } in
    let same : c.from_residual.result ≡ Err c.in_err-settle.field-0.0 = search rules in
    refused_first (ℕ) g.D.Disk.watch g.D.Disk.honest (λ mid. Creates g.D.Disk.watch g.D.Disk.honest c.args.name.now c.args.self.now mid c.settle.new.self c.from_residual.result) c.args.self.now c.settle.new.self c.settle.result c.in_err-settle.field-0.0 c.from_residual.result settles c.in_err-settle.was same

pub returns-clause-after : goal.returns-clause-after
returns-clause-after g c =
    let settles : SettlesNames g.D.Disk.watch g.D.Disk.honest c.args.self.now c.settle.new.self c.settle.result =
    record { after = c.settle.ensures.after; same = c.settle.ensures.running; store = c.settle.ensures.same; sound = c.settle.ensures.sound; images_a = c.settle.ensures.images_a; images_b = c.settle.ensures.images_b } in
    then_own (ℕ) g.D.Disk.watch g.D.Disk.honest (λ mid. Creates g.D.Disk.watch g.D.Disk.honest c.args.name.now c.args.self.now mid c.make.new.self c.make.result) c.args.self.now c.settle.new.self c.make.new.self c.settle.result c.in_ok-settle.field-0 c.make.result settles c.in_ok-settle.was
    (creates_then g.D.Disk.watch g.D.Disk.honest c.args.name.now c.args.self.now c.settle.new.self c.make.new.self c.settle.result c.make.result settles c.make.ensures.creates)
