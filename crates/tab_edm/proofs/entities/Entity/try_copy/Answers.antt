use Rattle.std.proofs.Common.{◌≡◌, Vec, Global, subst, sym}
use Rattle.std.specs.Prelude.{vec_items}
use Rattle.std.specs.List.{All}
use Rattle.tab_edm.specs.Values.{IsProperty}
use Rattle.tab_edm.specs.Entities.{IsEntity, entity_size}
use Rattle.tab_edm.specs.declared.values.Property.{Property}
use Rattle.tab_edm.proofs.entities.Entity.try_copy.Goals as goal

pub invariant_of-result : goal.invariant_of-result
invariant_of-result c =
    subst (λ (v : Vec Property Global). IsEntity c.self.inside.pk_units c.self.inside.rk_units (vec_items v)
    × (c.self.inside.size ≡ entity_size c.self.inside.pk_units c.self.inside.rk_units (vec_items v)) × All IsProperty (vec_items v)) (sym c.in-Ok.ensures) c.self.invariant
