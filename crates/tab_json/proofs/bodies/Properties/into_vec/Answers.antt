use Rattle.tab_json.proofs.Readings.{distinct}
use Rattle.tab_json.proofs.bodies.Properties.into_vec.Goals as goal

pub returns-clause-distinct : goal.returns-clause-distinct
returns-clause-distinct c = distinct c.self.inside.list.items c.self.invariant.0
