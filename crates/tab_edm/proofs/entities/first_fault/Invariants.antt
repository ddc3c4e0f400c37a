use Rattle.std.proofs.Common.{◌≡◌, take, drop}
use Rattle.std.specs.List.{All}
use Rattle.tab_edm.specs.Values.{IsProperty}
use Rattle.tab_edm.specs.Entities.{first_refusal}
use Rattle.tab_edm.proofs.entities.first_fault.Given as goal

abbrev pub invariant-loop-index : goal.invariant-loop-index
invariant-loop-index l = record {
  passed : first_refusal l.properties ≡ first_refusal (drop l.index l.properties);
  typed : All IsProperty (take l.index l.properties);
}
