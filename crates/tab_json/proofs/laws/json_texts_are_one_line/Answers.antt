use Rattle.tab_json.proofs.LineLaws.{value_line}
use Rattle.tab_json.proofs.laws.json_texts_are_one_line.Goals as goal

pub returns : goal.returns
returns c = value_line
