use Rattle.std.proofs.Common.{◌≡◌, ◌++◌, map, length}
use Rattle.std.specs.Prelude.{vec_items}
use Rattle.tab_service.specs.Replies.{operation_replies}
use Rattle.tab_service.proofs.replies.rows.operation_replies.Given as goal

abbrev pub decreases-loop-part : goal.decreases-loop-part
decreases-loop-part l = length l.forms

abbrev pub invariant-loop-part : goal.invariant-loop-part
invariant-loop-part l =
    map vec_items l.replies.items ++ operation_replies l.account l.forms l.left l.tick ≡ operation_replies l.account l.parts l.items l.tick
