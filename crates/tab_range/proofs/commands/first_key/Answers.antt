use Rattle.std.proofs.Common.{ap, sym, ◌∙◌}
use Rattle.std.specs.Option.{option_copied}
use Rattle.std.specs.Prelude.{slice_get}
use Rattle.tab_range.proofs.Accepting.{has_first}
use Rattle.tab_range.proofs.commands.first_key.Goals as goal

pub unreachable-requires : goal.unreachable-requires
unreachable-requires c = has_first c.args.group.now c.items.ensures.group
    (ap (λ items. slice_get items 0) (sym c.items.ensures.items) ∙ (sym c.first.ensures.value ∙ ap option_copied c.in-None.is))
