-- With the changes that are left, the rows come to what they come to with all of them.
use Rattle.std.proofs.Common.{◌≡◌, drop}
use Rattle.tab_ops.specs.Changes.{applied}
use Rattle.tab_server.proofs.replays.make_changes.Given as goal

abbrev pub invariant-loop-change : goal.invariant-loop-change
invariant-loop-change l = applied l.rows.rows (drop l.change-index l.changes) ≡ applied l.fn.rows.rows l.changes
