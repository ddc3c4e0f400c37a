use Rattle.std.proofs.Common.{◌∙◌}
use Rattle.tab_keys.proofs.OrderLaws.{bytes_eq-is}
use Rattle.tab_keys.proofs.key_texts.KeyTextPartialEq.eq.Goals as goal

pub returns : goal.returns
returns c =
    rw (← c.as_str.ensures.text, ← c.as_str-2.ensures.text)
    (c.eq.ensures ∙ bytes_eq-is c.as_str.result.now c.as_str-2.result.now c.as_str.utf8 c.as_str-2.utf8)
