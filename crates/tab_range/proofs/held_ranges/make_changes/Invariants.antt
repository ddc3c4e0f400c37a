use Rattle.std.proofs.Common.{◌≡◌, ◌+◌, ◌≤◌, length}
use Rattle.std.specs.Vec.Iter.{into_iter_items, into_iter_len}
use Rattle.tab_ops.specs.Changes.{applied}
use Rattle.tab_range.proofs.held_ranges.make_changes.Given as goal

abbrev pub invariant-loop-change : goal.invariant-loop-change
invariant-loop-change l =
    (applied l.fn.rows.rows l.fn.changes ≡ applied l.rows.rows (into_iter_items l.change-iterator))
    × (length (into_iter_items l.change-iterator) ≤ l.rows.spare)
    × (l.rows.spare + length l.rows.rows ≡ l.fn.rows.spare + length l.fn.rows.rows)
    × (into_iter_len l.change-iterator ≡ length (into_iter_items l.change-iterator))
    × (goal.iterator-loop-change).can_next l.change-iterator
    × (goal.iterator-loop-change).is_finite l.change-iterator
