use Rattle.std.proofs.Common.{sym}
use Rattle.std.proofs.lemmas.Bool.{true≢false}
use Rattle.uuid.specs.Text.{parsed}
use Rattle.tab_filter.specs.Literals.{guid_of}
use Rattle.tab_filter.proofs.LiteralSteps.{guid_none}
use Rattle.tab_filter.proofs.literals.guid.Goals as goal

pub returns-in-Err : goal.returns-in-Err
unfolding guid_of
returns-in-Err c = guid_none (parsed c.args.text.now) (λ u e. true≢false (sym (c.in-Err.ensures.ok.1 (u, e))))
