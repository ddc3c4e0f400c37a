-- The changes so far are what changes are.
use Rattle.std.proofs.Common.{take}
use Rattle.std.specs.List.{AllByRecursion}
use Rattle.tab_codec.specs.Frames.{IsChange}
use Rattle.tab_server.proofs.steps.are_changes.Given as goal

abbrev pub invariant-loop-change : goal.invariant-loop-change
invariant-loop-change l = AllByRecursion IsChange (take l.change-index l.changes)
