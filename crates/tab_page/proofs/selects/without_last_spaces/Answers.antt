use Rattle.std.proofs.Common.{sym, ap, ◌∙◌, reverse}
use Rattle.std.proofs.Math.Utf8.{encode}
use Rattle.tab_page.proofs.SelectLaws.{no_last_space}
use Rattle.tab_page.proofs.selects.without_last_spaces.Goals as goal

pub returns : goal.returns
unfolding encode
returns c = sym (no_last_space c.loop-rest.text.now c.in_default.ensures.cases) ∙ ap reverse c.loop-rest.invariant.1
