use Rattle.tab_core.proofs.ServerSteps.{made, fell, doubted}
use Rattle.tab_core.proofs.laws.server_steps_keep_courses.Goals as goal

pub returns-clause-made : goal.returns-clause-made
returns-clause-made g c course core number old new step operation entry keeps none here suits stands ends by settled =
    made {D = g.row.D.Denot} {T = g.row.T.Denot} course core number old new step operation entry keeps none here suits stands ends by settled

pub returns-clause-fell : goal.returns-clause-fell
returns-clause-fell g c course core number ask old new operation keeps none here found about settled =
    fell {D = g.row.D.Denot} {T = g.row.T.Denot} course core number ask old new operation keeps none here found about settled

pub returns-clause-doubted : goal.returns-clause-doubted
returns-clause-doubted g c course core number ask now old new step operation keeps none here suits by number_is told in_doubt =
    doubted {D = g.row.D.Denot} {T = g.row.T.Denot} course core number ask now old new step operation keeps none here suits by number_is told in_doubt
