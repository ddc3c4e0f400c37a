use Rattle.std.proofs.Common.{refl, ap, ◌∙◌}
use Rattle.serde_json.specs.View.{members_view}
use Rattle.tab_json.proofs.FlatObjects.{puts}
use Rattle.tab_json.proofs.LentLemmas.{tree_again}
use Rattle.tab_json.proofs.lent.LentMembers.of_tree.Goals as goal

pub loop-name-init : goal.loop-name-init
loop-name-init c = rw (c.in_ok-lent.ensures, c.into_iter-name-iterator.ensures.into_iter_gives.0) refl

pub loop-name-preserved : goal.loop-name-preserved
loop-name-preserved c =
    let left = rw c.in-Some.ensures.steps at c.loop-name.invariant in
    let put = rw c.as_str.ensures.value at c.in_ok-put.ensures in
    ap (puts (members_view c.next.new.self)) put ∙ left

pub returns : goal.returns
returns c = (rw c.in-None.ensures.steps.0 at c.loop-name.invariant) ∙ tree_again c.args.members.now.entries c.into_iter-name-iterator.ensures.into_iter_gives.5
