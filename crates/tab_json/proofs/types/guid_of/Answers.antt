use Rattle.uuid.specs.Text.{parsed}
use Rattle.tab_json.proofs.Options.{none_unless}
use Rattle.tab_json.proofs.types.guid_of.Goals as goal

pub returns-in-Err : goal.returns-in-Err
returns-in-Err c = none_unless (parsed c.args.text.now) (λ u e. let read = c.in-Err.ensures.ok.1 (u, e) in absurd (cc))
