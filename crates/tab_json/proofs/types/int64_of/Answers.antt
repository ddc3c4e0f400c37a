use Rattle.std.proofs.Common.{sym, ap, ◌∙◌, FitsSigned, w64, rules}
use Rattle.std.proofs.lemmas.Bool.{both_ways}
use Rattle.std.proofs.lemmas.Bool.Decides.{Decides-eqb}
use Rattle.std.proofs.lemmas.Int.{to_z-of_z}
use Rattle.std.proofs.lemmas.Slice.Eq.{slice_eq-Decides}
use Rattle.std.specs.Fmt.{signed_decimal}
use Rattle.tab_json.proofs.Numbers.{unparsed, written_otherwise, int64_given, int64_exact}
use Rattle.tab_json.proofs.types.int64_of.Goals as goal

pub returns-in_default-clause-value : goal.returns-in_default-clause-value
returns-in_default-clause-value c = unparsed c.args.text.now c.in_default.field-0 c.in_default.ensures.value.0

pub returns-in_default-clause-exact : goal.returns-in_default-clause-exact
returns-in_default-clause-exact c =
    int64_exact c.args.text.now c.parse.result _ c.parse.ensures.value.0 (unparsed c.args.text.now c.in_default.field-0 c.in_default.ensures.value.0)

pub returns-then-eq-clause-value : goal.returns-then-eq-clause-value
returns-then-eq-clause-value c =
    let fits : FitsSigned w64 c.in-Ok.number = search rules in
    let kept = to_z-of_z w64 c.in-Ok.number fits in
    let written = (slice_eq-Decides Decides-eqb _ _ _ c.eq.ensures).0 c.if-eq.true in
    rw kept (sym (int64_given c.args.text.now c.in-Ok.number c.parse.result c.parse.ensures.value.0 (sym written ∙ c.format.ensures.text ∙ ap signed_decimal kept) fits))

pub returns-then-eq-clause-exact : goal.returns-then-eq-clause-exact
returns-then-eq-clause-exact c = int64_exact c.args.text.now c.parse.result _ c.parse.ensures.value.0 (returns-then-eq-clause-value c)

pub returns-else-eq-clause-value : goal.returns-else-eq-clause-value
returns-else-eq-clause-value c =
    let fits : FitsSigned w64 c.in-Ok.number = search rules in
    let printed = c.format.ensures.text ∙ ap signed_decimal (to_z-of_z w64 c.in-Ok.number fits) in
    written_otherwise c.args.text.now c.in-Ok.number c.parse.result c.parse.ensures.value.0 c.in-Ok.is
    (λ is. both_ways c.eq.result c.if-eq.false ((slice_eq-Decides Decides-eqb _ _ _ c.eq.ensures).1 (printed ∙ is)))

pub returns-else-eq-clause-exact : goal.returns-else-eq-clause-exact
returns-else-eq-clause-exact c = int64_exact c.args.text.now c.parse.result _ c.parse.ensures.value.0 (returns-else-eq-clause-value c)
