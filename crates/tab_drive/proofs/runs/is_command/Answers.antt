use Rattle.std.proofs.Common.{refl, sym, ◌∙◌}
use Rattle.tab_drive.proofs.Words.{none_found}
use Rattle.tab_drive.proofs.runs.is_command.Goals as goal

pub returns-clause-no : goal.returns-clause-no
returns-clause-no c is = record { no_drive = none_found _ _ (sym c.is_some.ensures ∙ is) c.in_ok-keys_of.ensures.found; no_init = c.if-is_init.ensures.no refl }
