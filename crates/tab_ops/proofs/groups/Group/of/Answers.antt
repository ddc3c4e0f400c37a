use Rattle.std.proofs.Common.{subst, sym, ◌∙◌, ap, List, ◌++◌, ◌∷◌, []}
use Rattle.tab_ops.specs.Groups.{ItemView, IsGroup}
use Rattle.tab_ops.proofs.GroupLemmas.{IsGroup-one}
use Rattle.tab_ops.proofs.groups.Group.of.Goals as goal

pub invariant_of-result : goal.invariant_of-result
invariant_of-result c =
    subst IsGroup (sym (c.in-Ok-push.ensures.items ∙ ap (λ (items : List ItemView). items ++ c.args.item ∷ []) c.in-Ok.ensures.items)) (IsGroup-one c.args.item)
