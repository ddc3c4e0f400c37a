use Rattle.std.proofs.Common.{Some, ap, ◌∙◌, subst}
use Rattle.tab_history.specs.World.{Named, table_of}
use Rattle.tab_master.specs.Tables.{TablesView, StandsAt}
use Rattle.tab_master.proofs.TableIndexes.{table_of-stands}
use Rattle.tab_master.proofs.tables.Tables.find.Goals as goal

pub returns : goal.returns
returns c =
    let name = c.args.name.now in
    let index = c.in_ok-index.index in
    let stands : StandsAt c.self.inside.tables.items name index = subst (λ names. StandsAt names name index) c.as_slice.ensures.value c.in_ok-index.ensures in
    ap (λ (named : Named). Some named.table) c.behind-self.view_is
    ∙ (table_of-stands c.self.inside.tables.items name index stands c.index.result.now c.index.ensures ∙ ap (λ (all : TablesView). table_of all.names name) c.self.view_is)
