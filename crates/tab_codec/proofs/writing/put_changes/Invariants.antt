use Rattle.std.proofs.Common.{◌≡◌, ◌++◌, take}
use Rattle.std.specs.List.{flat_map, AllByRecursion}
use Rattle.tab_codec.specs.Spelling.{change_spelling}
use Rattle.tab_codec.specs.Frames.{IsChange}
use Rattle.tab_codec.proofs.writing.put_changes.Given as goal

abbrev pub invariant-loop-change : goal.invariant-loop-change
invariant-loop-change l = record {
  bytes : l.out.items ≡ l.fn.out.items ++ flat_map change_spelling (take l.change-index l.changes);
  parts : AllByRecursion IsChange (take l.change-index l.changes);
}
