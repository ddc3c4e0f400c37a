use Rattle.std.proofs.Common.{◌≡◌, ◌≤◌, ◌+◌, ◌*◌, take, sum_by}
use Rattle.tab_edm.specs.declared.values.TheConstants.{MOST_NAME_CHARACTERS, MOST_BINARY_BYTES}
use Rattle.tab_edm.specs.Values.{property_size}
use Rattle.tab_edm.proofs.entities.entity_size.Given as goal

abbrev pub invariant-loop-property : goal.invariant-loop-property
invariant-loop-property l =
    (l.size ≡ 4 + 2 * (l.pk_units + l.rk_units) + sum_by property_size (take l.property-index l.properties))
    × (l.size ≤ 4 + 2 * (l.pk_units + l.rk_units) + (12 + 4 * MOST_NAME_CHARACTERS + MOST_BINARY_BYTES) * l.property-index)
