use Rattle.tab_keys.proofs.Names.{is_same_folded}
use Rattle.tab_keys.proofs.table_names.is_same_folded.Goals as goal

pub returns : goal.returns
returns c = is_same_folded c.args.a.now c.args.b.now _ c.eq_ignore_ascii_case.ensures.test
