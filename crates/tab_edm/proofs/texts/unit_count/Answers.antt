use Rattle.std.proofs.Common.{arith}
use Rattle.std.proofs.lemmas.Grind.{common_steps}
use Rattle.tab_edm.proofs.Units.{unit_count-units_begun}
use Rattle.tab_edm.proofs.texts.unit_count.Goals as goal

pub returns : goal.returns
returns c = grind (arith, common_steps, unit_count-units_begun c.args.text.now c.utf8.text)
