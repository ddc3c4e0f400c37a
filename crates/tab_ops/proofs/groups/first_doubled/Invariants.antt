use Rattle.std.proofs.Common.{take}
use Rattle.tab_ops.specs.Groups.{AreApart}
use Rattle.tab_ops.proofs.GroupLemmas.{Looked}
use Rattle.tab_ops.proofs.groups.first_doubled.Given as goal

abbrev pub invariant-loop-index : goal.invariant-loop-index
invariant-loop-index l = record { doubled : Looked l.items l.index; apart : AreApart (take l.index l.items) }
