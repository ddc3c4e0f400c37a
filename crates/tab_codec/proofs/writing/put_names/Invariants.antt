use Rattle.std.proofs.Common.{◌≡◌, ◌++◌, take}
use Rattle.std.specs.List.{flat_map, AllByRecursion}
use Rattle.tab_codec.specs.Spelling.{name_spelling}
use Rattle.tab_codec.specs.Frames.{IsTable}
use Rattle.tab_codec.proofs.writing.put_names.Given as goal

abbrev pub invariant-loop-name : goal.invariant-loop-name
invariant-loop-name l = record {
  bytes : l.out.items ≡ l.fn.out.items ++ flat_map name_spelling (take l.name-index l.names);
  parts : AllByRecursion IsTable (take l.name-index l.names);
}
