use Rattle.std.proofs.Common.{ap, ◌∙◌, sym, ◌<◌, length, List, subst, Some}
use Rattle.tab_ops.specs.Groups.{ItemView}
use Rattle.tab_drive.proofs.StateSteps.{some_item, named_first}
use Rattle.tab_drive.proofs.look_ups.name_of.Goals as goal

pub bounds-items-0 : goal.bounds-items-0
bounds-items-0 c = subst (λ (items : List ItemView). 0 < length items) (sym c.items.ensures.items) (some_item c.in-Change.group c.items.ensures.group)

pub returns-in-Change : goal.returns-in-Change
returns-in-Change c =
    rw c.in-Change.is
    (ap Some
    (ap (λ (item : ItemView). item.name) c.first.view_is
    ∙ named_first c.in-Change.group c.items.result.now c.index-items-0.result c.items.ensures.items c.items.ensures.group c.index-items-0.is))
