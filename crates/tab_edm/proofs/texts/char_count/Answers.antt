use Rattle.std.proofs.Common.{rules}
use Rattle.std.proofs.lemmas.Str.{chars_from_encodes}
use Rattle.tab_edm.specs.Texts.{char_count}
use Rattle.tab_edm.proofs.texts.char_count.Goals as goal

pub returns : goal.returns
unfolding char_count
returns c = search (rules, chars_from_encodes)
