use Rattle.tab_ops.proofs.GroupLaws.{refused_at_any_tick, accepted_at_any_tick}
use Rattle.tab_ops.proofs.laws.groups_are_judged_without_their_tick.Goals as goal

pub returns-clause-refused : goal.returns-clause-refused
returns-clause-refused c = refused_at_any_tick

pub returns-clause-accepted : goal.returns-clause-accepted
returns-clause-accepted c = accepted_at_any_tick
