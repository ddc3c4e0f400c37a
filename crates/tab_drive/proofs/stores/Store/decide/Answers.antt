use Rattle.tab_drive.proofs.Exits.{ok_at}
use Rattle.tab_drive.proofs.stores.Store.decide.Goals as goal

pub returns-in-Create-clause-decided : goal.returns-in-Create-clause-decided
returns-in-Create-clause-decided c = rw c.in-Create.is (ok_at c.decide_create.result _ c.args.moment c.decide_create.ensures.decided)

pub returns-in-Drop-clause-decided : goal.returns-in-Drop-clause-decided
returns-in-Drop-clause-decided c = rw c.in-Drop.is (ok_at c.decide_drop.result _ c.args.moment c.decide_drop.ensures.decided)

pub returns-in-Tables-clause-decided : goal.returns-in-Tables-clause-decided
returns-in-Tables-clause-decided c = rw c.in-Tables.is (ok_at c.decide_tables.result _ c.args.moment c.decide_tables.ensures.decided)
