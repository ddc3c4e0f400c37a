use Rattle.std.proofs.Common.{◌∙◌, ◌<◌, length, rules}
use Rattle.std.proofs.lemmas.List.{take_at}
use Rattle.tab_outside.proofs.Overwrites.{overwritten_when_grown}
use Rattle.tab_outside.proofs.bytes.overwrite.Goals as goal

pub returns-clause-written : goal.returns-clause-written
returns-clause-written c =
    let some : 0 < length c.args.piece.now = search rules in
    take_at _ _ _ (c.replace.auto.bytes ∙ c.deref_mut.ensures.len) ∙ c.replace.ensures ∙ overwritten_when_grown c.args.bytes.now.items c.args.piece.now c.args.at _ some (c.deref_mut.ensures.value ∙ c.in_ok-grow_to.ensures.grown)
