use Rattle.std.proofs.Common.{◌<◌, ◌∙◌, ap, List, ℕ, [], ◌∷◌, ◌++◌, length, arith}
use Rattle.std.proofs.lemmas.List.{take_more_set, replicate_more}
use Rattle.tab_outside.proofs.logs.fill.Goals as goal

pub loop-each-preserved : goal.loop-each-preserved
loop-each-preserved c =
    let within : c.loop-each.each-index < length c.loop-each.bytes = omega arith in
    take_more_set c.loop-each.bytes c.loop-each.each-index c.args.byte within
    ∙ ap (λ (front : List ℕ). front ++ c.args.byte ∷ []) c.loop-each.invariant ∙ replicate_more c.loop-each.each-index c.args.byte
