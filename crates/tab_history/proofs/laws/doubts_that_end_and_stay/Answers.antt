use Rattle.tab_history.proofs.DoubtsExampleLaws.{doubts_legal, doubts_followed, in_doubt, no_more, rows_left, table_open}
use Rattle.tab_history.proofs.laws.doubts_that_end_and_stay.Goals as goal

pub returns-clause-legal : goal.returns-clause-legal
returns-clause-legal c = doubts_legal

pub returns-clause-followed : goal.returns-clause-followed
returns-clause-followed c = doubts_followed

pub returns-clause-commit : goal.returns-clause-commit
returns-clause-commit c = in_doubt

pub returns-clause-committed : goal.returns-clause-committed
returns-clause-committed c = no_more

pub returns-clause-rows : goal.returns-clause-rows
returns-clause-rows c = rows_left

pub returns-clause-doubts : goal.returns-clause-doubts
returns-clause-doubts c = table_open
