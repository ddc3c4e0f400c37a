use Rattle.std.proofs.Common.{◌≡◌, ◌++◌, take}
use Rattle.std.specs.Prelude.{vec_items}
use Rattle.tab_journal.proofs.listings.append.Given as goal

abbrev pub invariant-loop-name : goal.invariant-loop-name
invariant-loop-name l = vec_items l.names ≡ vec_items l.fn.names ++ take l.name-index l.more
