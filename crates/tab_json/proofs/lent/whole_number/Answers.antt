use Rattle.std.proofs.Common.{ℤ, Some, refl, ap, sym, ◌∙◌, w64}
use Rattle.std.proofs.lemmas.Int.{to_z-of_z}
use Rattle.serde_json.specs.Find.{of_integer}
use Rattle.tab_json.proofs.LentLemmas.{whole_number}
use Rattle.tab_json.proofs.lent.whole_number.Goals as goal

pub returns-in-Some : goal.returns-in-Some
returns-in-Some c =
    let is = (c.in-Some.ensures.exact c.in-Some.number).0 refl in
    let kept = to_z-of_z w64 c.in-Some.number is.1 in
    whole_number c.args.text.now c.in-Some.number is ∙ ap (λ (z : ℤ). Some (of_integer z)) (sym kept) ∙ ap Some (sym c.from.ensures)
