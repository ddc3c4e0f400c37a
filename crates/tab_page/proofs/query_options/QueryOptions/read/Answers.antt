use Rattle.std.proofs.Common.{ap, sym, ◌∙◌}
use Rattle.tab_page.specs.QueryOptions.{with_pairs}
use Rattle.tab_page.proofs.QueryOptionLaws.{all_pairs}
use Rattle.tab_page.proofs.query_options.QueryOptions.read.Goals as goal

pub returns : goal.returns
returns c = sym (ap (with_pairs _) c.in-None.ensures.steps.0) ∙ (c.loop-name.invariant ∙ all_pairs c.args.query.now)
