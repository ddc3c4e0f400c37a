use Rattle.std.proofs.Common.{◌==◌, not, rules}
use Rattle.std.proofs.lemmas.Fn.{filter_same}
use Rattle.tab_history.specs.World.{Named}
use Rattle.tab_master.proofs.listing.drop_table.Goals as goal

pub returns : goal.returns
returns c = filter_same _ (λ (one : Named). not (one.table == c.args.table)) _ (λ x b f h. search rules) _ _ c.retain.ensures.filtered
