use Rattle.std.proofs.Common.{sym, ◌∙◌}
use Rattle.std.proofs.Math.Utf8.{encode}
use Rattle.tab_page.proofs.SelectLaws.{no_first_space}
use Rattle.tab_page.proofs.selects.without_first_spaces.Goals as goal

pub returns : goal.returns
unfolding encode
returns c = sym (no_first_space c.loop-rest.text.now c.in_default.ensures.cases) ∙ c.loop-rest.invariant.1
