use Rattle.std.proofs.Common.{◌≡◌, ◌++◌, map, take}
use Rattle.tab_master.specs.Spelled.{named}
use Rattle.tab_master.proofs.listing.append.Given as goal

abbrev pub invariant-loop-name : goal.invariant-loop-name
invariant-loop-name l = l.tables.items ≡ l.fn.tables.items ++ map named (take l.name-index l.names)
