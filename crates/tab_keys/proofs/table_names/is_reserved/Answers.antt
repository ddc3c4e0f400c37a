use Rattle.tab_keys.proofs.Names.{is_folded}
use Rattle.tab_keys.proofs.table_names.is_reserved.Goals as goal

pub returns : goal.returns
returns c = is_folded c.args.name.now _ _ c.eq_ignore_ascii_case.ensures.test
