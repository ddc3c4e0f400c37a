use Rattle.std.proofs.Common.{◌≡◌, ◌∙◌, ap, sym, subst, Ok, Err}
use Rattle.std.specs.Prelude.{Some, Result, MatchResult}
use Rattle.tab_edm.specs.Entities.{EntityView}
use Rattle.tab_edm.specs.declared.entities.EdmRefused.{EdmRefused}
use Rattle.tab_ops.specs.Changes.{merge_outcome}
use Rattle.tab_ops.specs.Merges.{refusal_for}
use Rattle.tab_ops.proofs.Merging.{merge_made, joined_distinct, joined_unreserved, joined_in_time}
use Rattle.tab_ops.proofs.merges.merge.Goals as goal

same_refusal : {r : Result EntityView EdmRefused} {a b : EdmRefused} → r ≡ Err a → r ≡ Err b → a ≡ b
same_refusal x y = cc

pub new-requires-clause-distinct : goal.new-requires-clause-distinct
new-requires-clause-distinct c = joined_distinct c.args.kept.now c.args.given.now c.in-Ok.properties.items c.in-Ok.ensures.kept c.in-Ok.ensures.given c.in-Ok.ensures.joined

pub new-requires-clause-unreserved : goal.new-requires-clause-unreserved
new-requires-clause-unreserved c = joined_unreserved c.args.kept.now c.args.given.now c.in-Ok.properties.items c.in-Ok.ensures.kept c.in-Ok.ensures.given c.in-Ok.ensures.joined

pub new-requires-clause-in_time : goal.new-requires-clause-in_time
new-requires-clause-in_time c = joined_in_time c.args.kept.now c.args.given.now c.in-Ok.properties.items c.in-Ok.ensures.kept c.in-Ok.ensures.given c.in-Ok.ensures.joined

pub returns-in-Ok-new-clause-entity : goal.returns-in-Ok-new-clause-entity
returns-in-Ok-new-clause-entity c =
    subst (λ (r : Result EntityView EdmRefused). MatchResult r (λ entity. merge_outcome c.args.index c.args.kept.now c.args.given.now ≡ Ok (Some entity)) (λ why. merge_outcome c.args.index c.args.kept.now c.args.given.now ≡ Err (refusal_for c.args.index why))) c.in-Ok-new.is
    (merge_made c.args.index c.pk_units.result c.rk_units.result c.args.kept.now c.args.given.now c.in-Ok.properties.items c.new.result c.in-Ok.ensures.kept c.in-Ok.ensures.given c.in-Ok.ensures.joined c.pk_units.ensures c.rk_units.ensures (c.new.ensures.exact (λ e. absurd cc)))

pub returns-in-Err-clause-entity : goal.returns-in-Err-clause-entity
returns-in-Err-clause-entity c = λ found.
    subst (λ (r : Result EntityView EdmRefused). MatchResult r (λ entity. merge_outcome c.args.index c.args.kept.now c.args.given.now ≡ Ok (Some entity)) (λ why. merge_outcome c.args.index c.args.kept.now c.args.given.now ≡ Err (refusal_for c.args.index why))) c.in-Err.is
    (merge_made c.args.index c.pk_units.result c.rk_units.result c.args.kept.now c.args.given.now c.in-Ok.properties.items c.new.result c.in-Ok.ensures.kept c.in-Ok.ensures.given c.in-Ok.ensures.joined c.pk_units.ensures c.rk_units.ensures (c.new.ensures.exact (λ e. found (c.refusal.ensures ∙ ap (refusal_for c.args.index) (same_refusal c.in-Err.is e)))))
    ∙ ap Err (sym c.refusal.ensures)
