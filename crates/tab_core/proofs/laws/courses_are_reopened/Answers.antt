use Rattle.tab_core.proofs.Reopening.{reopened_suits, reopened_settled, reopened_commit}
use Rattle.tab_core.proofs.laws.courses_are_reopened.Goals as goal

pub returns-clause-suits : goal.returns-clause-suits
returns-clause-suits c = reopened_suits

pub returns-clause-settled : goal.returns-clause-settled
returns-clause-settled c = reopened_settled

pub returns-clause-no_commit : goal.returns-clause-no_commit
returns-clause-no_commit c = reopened_commit
