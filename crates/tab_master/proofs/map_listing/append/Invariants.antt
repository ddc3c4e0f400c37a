use Rattle.std.proofs.Common.{◌≡◌, ◌++◌, take}
use Rattle.std.specs.Prelude.{vec_items}
use Rattle.tab_master.proofs.map_listing.append.Given as goal

abbrev pub invariant-loop-row : goal.invariant-loop-row
invariant-loop-row l = vec_items l.rows ≡ vec_items l.fn.rows ++ take l.row-index l.more
