use Rattle.std.proofs.Common.{◌≤◌, length, ap, ◌∙◌, arith, subst}
use Rattle.std.specs.List.{AllByRecursion}
use Rattle.tab_codec.specs.Frames.{HasSpelling}
use Rattle.tab_server.specs.Contents.{IsHolding}
use Rattle.tab_server.proofs.Holding.{all_checked}
use Rattle.tab_server.proofs.ranges.Ranges.checkpoint_pieces.Goals as goal

pub returns : goal.returns
returns g c =
    let over : length c.args.self.now ≤ c.loop-marked.marked-index = omega (arith, c.loop-marked-test.false, ap length (c.deref-marked-items.ensures.value ∙ c.self.view_is)) in
    all_checked c.args.self.now c.loop-marked.marked-index c.loop-marked.pieces.items over (subst IsHolding c.self.view_is c.self.invariant) c.loop-marked.invariant.0 c.loop-marked.invariant.1
    (subst (AllByRecursion HasSpelling) c.deref.ensures.value c.are_spelled.ensures)
