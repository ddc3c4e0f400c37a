use Rattle.tab_json.proofs.Names.{stripped}
use Rattle.tab_json.proofs.members_read.annotated_by.Goals as goal

pub returns : goal.returns
returns c = stripped c.args.name.now c.strip_suffix.result c.strip_suffix.ensures.cases
