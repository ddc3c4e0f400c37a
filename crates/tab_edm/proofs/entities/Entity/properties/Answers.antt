use Rattle.std.proofs.Common.{subst}
use Rattle.std.specs.List.{All}
use Rattle.tab_edm.specs.Values.{IsProperty}
use Rattle.tab_edm.specs.Entities.{EntityView}
use Rattle.tab_edm.proofs.entities.Entity.properties.Goals as goal

pub returns-clause-typed : goal.returns-clause-typed
returns-clause-typed c = subst (λ (e : EntityView). All IsProperty e.properties) c.self.view_is c.self.invariant.2
