use Rattle.std.proofs.Common.{ap, sym, ◌∙◌}
use Rattle.std.proofs.lemmas.List.{take_rest}
use Rattle.tab_history.specs.World.{names_from}
use Rattle.tab_master.specs.Tables.{spellings}
use Rattle.tab_master.proofs.TableLemmas.{names_from-first}
use Rattle.tab_master.proofs.TableIndexes.{names_from-begins}
use Rattle.tab_master.proofs.tables.tables_from.Goals as goal

pub returns-in-None : goal.returns-in-None
returns-in-None c = sym (names_from-first c.args.tables.now) ∙ ap (names_from c.args.tables.now) (sym c.in-None.is)

pub returns-in-Some : goal.returns-in-Some
returns-in-Some c =
    ap spellings (take_rest c.args.tables.now c.count_below.result)
    ∙ (names_from-begins c.args.tables.now c.in-Some.after c.count_below.result c.count_below.ensures ∙ ap (names_from c.args.tables.now) (sym c.in-Some.is))
