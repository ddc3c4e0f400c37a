use Rattle.std.proofs.Common.{◌≡◌, [], ◌∷◌, map, take}
use Rattle.serde_json.specs.View.{view}
use Rattle.tab_json.specs.Objects.{object_of}
use Rattle.tab_json.specs.Tables.{table_name}
use Rattle.tab_json.proofs.tables.table_values.Given as goal

abbrev pub invariant-loop-name : goal.invariant-loop-name
invariant-loop-name l = map view l.values.items ≡ map (λ name. object_of (table_name name ∷ [])) (take l.name-index l.names)
