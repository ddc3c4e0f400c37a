-- What is made of the properties of a body.
use Rattle.std.proofs.Common.{◌≡◌, ℕ, List, Option, Some, None, Ok}
use Rattle.tab_edm.specs.Entities.{EntityView, entity_refusal, made, entity_or_refusal}
use Rattle.tab_edm.specs.declared.values.Property.{Property}
use Rattle.tab_edm.specs.declared.entities.EdmRefused.{EdmRefused}

made_from : (entity made : EntityView) (refusal : Option EdmRefused) → Ok entity ≡ entity_or_refusal made refusal → entity ≡ made
made_from entity made None e = cc
made_from entity made (Some why) e = absurd (cc)

-- an entity is made for the units that it was to be made for
pub made_for : (pk_units rk_units : ℕ) (properties : List Property) (entity : EntityView) → Ok entity ≡ made pk_units rk_units properties
    → entity ≡ record { properties = properties; pk_units = pk_units; rk_units = rk_units }
unfolding made
made_for pk_units rk_units properties entity e = made_from entity _ (entity_refusal pk_units rk_units properties) e
