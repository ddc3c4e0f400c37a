use Rattle.std.proofs.Common.{ap, ◌∙◌}
use Rattle.tab_journal.specs.Stores.{StoreView}
use Rattle.tab_journal.proofs.Adopting.{front_end}
use Rattle.tab_journal.proofs.store.Store.end.Goals as goal

pub returns-clause-end : goal.returns-clause-end
returns-clause-end g c honest list has =
    let end_of = λ (s : StoreView g.row.D.Denot). s.end in
    ap end_of c.self.view_is ∙ has.end ∙ front_end c.args.self.now.kind c.args.self.now.number c.args.self.now.epoch list
