use Rattle.std.proofs.Common.{◌≡◌, ◌*◌, ◌≤◌, ◌||◌, take, drop, sum_by}
use Rattle.tab_keys.specs.KeyTexts.{units_begun}
use Rattle.tab_keys.proofs.BadCharacters.{any_ends_bad}
use Rattle.tab_keys.proofs.key_texts.measure.Given as goal

abbrev pub invariant-loop-byte : goal.invariant-loop-byte
invariant-loop-byte l = record {
  units : l.units ≡ sum_by units_begun (take l.byte-index l.byte-items);
  few : l.units ≤ 2 * l.byte-index;
  bad : any_ends_bad 0 l.byte-items ≡ (l.is_bad || any_ends_bad l.before (drop l.byte-index l.byte-items));
}
