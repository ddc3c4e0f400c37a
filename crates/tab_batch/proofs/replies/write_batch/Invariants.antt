use Rattle.std.proofs.Common.{◌≡◌, ◌++◌, map, take}
use Rattle.std.specs.Prelude.{vec_items}
use Rattle.std.specs.List.{flat_map}
use Rattle.tab_batch.specs.Replies.{opening, part_text}
use Rattle.tab_batch.proofs.replies.write_batch.Given as goal

abbrev pub invariant-loop-part : goal.invariant-loop-part
invariant-loop-part l = l.text.items ≡ opening ++ flat_map part_text (map vec_items (take l.part-index l.parts))
