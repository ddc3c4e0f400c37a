use Rattle.std.proofs.Common.{sym}
use Rattle.tab_master.proofs.DropLaws.{drop_goes_on}
use Rattle.tab_master.proofs.NamesCallLaws.{dropped_so}
use Rattle.tab_master.proofs.names.Names.take.Goals as goal

pub step-requires-clause-fits : goal.step-requires-clause-fits
step-requires-clause-fits g c = drop_goes_on c.args.self.now.held.told c.args.name.now c.in-Some.table (sym c.in-Some.ensures.is)

pub returns-clause-drops : goal.returns-clause-drops
returns-clause-drops g c =
    dropped_so (Unit {0}) g.D.Disk.watch g.D.Disk.honest c.args.name.now c.in-Some.table c.args.self.now c.step.new.self c.step.result c.in-Some.ensures.orderly (sym c.in-Some.ensures.is) c.step.ensures.after c.step.ensures.images
