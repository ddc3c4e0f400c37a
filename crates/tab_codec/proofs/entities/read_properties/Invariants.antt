use Rattle.std.proofs.Common.{◌≡◌, ◌-◌, ◌≤◌, None}
use Rattle.std.specs.Option.{option_map}
use Rattle.tab_edm.specs.declared.values.Property.{Property}
use Rattle.tab_codec.specs.Reading.{items_at, property_at, count_on}
use Rattle.tab_codec.proofs.Loops.{with_front, last_of}
use Rattle.tab_codec.proofs.entities.read_properties.Given as goal

abbrev pub invariant-loop : goal.invariant-loop
invariant-loop l = record {
  size : l.size ≤ 1_048_576;
  read : with_front l.properties.items (items_at property_at count_on (record { name = option_map (λ (p : Property). p.name) (last_of l.properties.items); size = l.size }) (l.count - l.counter) l.rest)
      ≡ items_at property_at count_on (record { name = None; size = l.fn.size }) l.count l.bytes;
}
