use Rattle.std.proofs.Common.{◌≡◌, ◌++◌, flat_map, take}
use Rattle.tab_json.specs.Written.{member_written}
use Rattle.tab_json.proofs.texts.JsonText.write_members.Given as goal

abbrev pub invariant-loop-slot : goal.invariant-loop-slot
invariant-loop-slot l = l.self ≡ l.fn.self ++ flat_map member_written (take l.slot-index l.slots)
