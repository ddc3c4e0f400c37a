use Rattle.std.proofs.Common.{◌≡◌, take, ap, sym, ◌∙◌}
use Rattle.std.proofs.lemmas.List.{take_min, take-map}
use Rattle.tab_history.specs.World.{Named, names_from}
use Rattle.tab_master.specs.Tables.{TablesView, spellings}
use Rattle.tab_master.proofs.tables.Tables.list.Goals as goal

pub returns-clause-names : goal.returns-clause-names
returns-clause-names c =
    let rest = c.tables_from-rest.result.now in
    let after = c.args.after.now in
    let first : take c.min.result rest ≡ take c.args.top rest = ap (λ n. take n rest) c.min.ensures ∙ (take_min c.from.result rest ∙ ap (λ n. take n rest) c.from.ensures) in
    let from : spellings rest ≡ names_from c.args.self.now.names after =
    c.tables_from-rest.ensures ∙ (ap (λ names. names_from names after) c.as_slice.ensures.value ∙ ap (λ (all : TablesView). names_from all.names after) c.self.view_is) in
    c.in_ok-names.ensures ∙ (ap spellings first ∙ (sym (take-map (λ (named : Named). named.spelling) c.args.top rest) ∙ ap (take c.args.top) from))
