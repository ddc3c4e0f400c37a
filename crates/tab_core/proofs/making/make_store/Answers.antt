use Rattle.std.proofs.Common.{◌∙◌}
use Rattle.tab_core.proofs.FirstFrames.{orderly_at, short_at, fit_at, whole_at, made_store}
use Rattle.tab_core.proofs.making.make_store.Goals as goal

pub init-requires-clause-orderly : goal.init-requires-clause-orderly
init-requires-clause-orderly g c = orderly_at c.args.store _ (c.deref.ensures.value ∙ c.in-Ok.ensures)

pub init-requires-clause-short : goal.init-requires-clause-short
init-requires-clause-short g c = short_at c.args.store _ (c.deref.ensures.value ∙ c.in-Ok.ensures)

pub init-requires-clause-fit : goal.init-requires-clause-fit
init-requires-clause-fit g c = fit_at c.args.store _ _ c.kind_of-kind.ensures.kind (c.deref.ensures.value ∙ c.in-Ok.ensures)

pub init-requires-clause-whole : goal.init-requires-clause-whole
init-requires-clause-whole g c = whole_at c.args.store _ _ c.kind_of-kind.ensures.kind (c.deref.ensures.value ∙ c.in-Ok.ensures)

pub returns-clause-made : goal.returns-clause-made
returns-clause-made g c honest small =
    made_store g.D.Disk.watch c.in_ok-made.made _ c.args.store _ _ (c.in_ok-made.ensures.ok honest) (c.in_ok-made.ensures.is.0 ∙ c.kind_of-kind.ensures.kind)
    (c.in_ok-made.ensures.is.1 ∙ c.kind_of-kind.ensures.number small) (c.deref.ensures.value ∙ c.in-Ok.ensures) c.into_disks.ensures.a c.into_disks.ensures.b
