use Rattle.tab_edm.proofs.Dates.{date_after_is}
use Rattle.tab_edm.proofs.moments.date_after.Goals as goal

pub returns-clause-year : goal.returns-clause-year
returns-clause-year c = (date_after_is _ c.from_days_since_min.result c.requires c.from_days_since_min.ensures).0

pub returns-clause-month : goal.returns-clause-month
returns-clause-month c = (date_after_is _ c.from_days_since_min.result c.requires c.from_days_since_min.ensures).1

pub returns-clause-day : goal.returns-clause-day
returns-clause-day c = (date_after_is _ c.from_days_since_min.result c.requires c.from_days_since_min.ensures).2
