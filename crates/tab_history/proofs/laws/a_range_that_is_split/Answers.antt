use Rattle.tab_history.proofs.SplitExampleLaws.{still_whole, parted, ticks_stay, plans_end, numbers_kept}
use Rattle.tab_history.proofs.laws.a_range_that_is_split.Goals as goal

pub returns-clause-whole : goal.returns-clause-whole
returns-clause-whole c = still_whole

pub returns-clause-parted : goal.returns-clause-parted
returns-clause-parted c = parted

pub returns-clause-ticks : goal.returns-clause-ticks
returns-clause-ticks c = ticks_stay

pub returns-clause-plans : goal.returns-clause-plans
returns-clause-plans c = plans_end

pub returns-clause-numbers : goal.returns-clause-numbers
returns-clause-numbers c = numbers_kept
