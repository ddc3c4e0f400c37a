use Rattle.tab_history.proofs.TablesExampleLaws.{nothing_world, tables_legal, names_left, rows_left}
use Rattle.tab_history.proofs.laws.tables_that_come_and_go.Goals as goal

pub returns-clause-world : goal.returns-clause-world
returns-clause-world c = nothing_world

pub returns-clause-legal : goal.returns-clause-legal
returns-clause-legal c = tables_legal

pub returns-clause-names : goal.returns-clause-names
returns-clause-names c = names_left

pub returns-clause-rows : goal.returns-clause-rows
returns-clause-rows c = rows_left
