use Rattle.std.proofs.Common.{◌≡◌, None, ap, sym, ◌∙◌, subst}
use Rattle.tab_history.specs.World.{table_of, without_name}
use Rattle.tab_drive.specs.Tables.{TablesView, StandsAt}
use Rattle.tab_drive.proofs.TableLemmas.{without_name-absent}
use Rattle.tab_drive.proofs.TableIndexes.{without_name-stands}
use Rattle.tab_drive.proofs.tables.Tables.take.Goals as goal

pub returns-in-Some : goal.returns-in-Some
returns-in-Some c =
    let name = c.args.name.now in
    let stands : StandsAt c.self.inside.tables.items name c.in-Some.index = subst (λ names. StandsAt names name c.in-Some.index) c.as_slice.ensures.value c.in-Some.ensures in
    c.remove.ensures.items ∙ (sym (without_name-stands c.self.inside.tables.items name c.in-Some.index stands) ∙ ap (λ (all : TablesView). without_name all.names name) c.self.view_is)

pub returns-in_default : goal.returns-in_default
returns-in_default c =
    let name = c.args.name.now in
    let absent : table_of c.args.self.now.names name ≡ None = subst (λ names. table_of names name ≡ None) (c.as_slice.ensures.value ∙ ap (λ (all : TablesView). all.names) c.self.view_is) c.in_default.ensures in
    sym (without_name-absent c.args.self.now.names name absent)
