use Rattle.std.proofs.Common.{◌≡◌, ◌*◌, ◌≤◌, take, sum_by}
use Rattle.tab_edm.specs.Texts.{units_begun}
use Rattle.tab_edm.proofs.texts.unit_count.Given as goal

abbrev pub invariant-loop-byte : goal.invariant-loop-byte
invariant-loop-byte l = (l.units ≡ sum_by units_begun (take l.byte-index l.byte-items)) × (l.units ≤ 2 * l.byte-index)
