use Rattle.std.proofs.Common.{arith}
use Rattle.std.proofs.lemmas.Grind.{common_steps}
use Rattle.tab_keys.proofs.BadCharacters.{bad_whole}
use Rattle.tab_keys.proofs.Units.{units-begun}
use Rattle.tab_keys.proofs.key_texts.measure.Goals as goal

pub returns-clause-units : goal.returns-clause-units
returns-clause-units c = grind (arith, common_steps, units-begun c.args.text.now c.utf8.text)

pub returns-clause-bad : goal.returns-clause-bad
returns-clause-bad c = bad_whole c.args.text.now c.as_bytes-byte-items.result.now c.loop-byte.byte-index c.loop-byte.before c.loop-byte.is_bad c.as_bytes-byte-items.ensures.value c.utf8.text (omega arith) c.loop-byte.invariant.bad
