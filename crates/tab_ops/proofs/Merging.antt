-- What is made of merged properties is what the merge comes to.
use Rattle.std.proofs.Common.{◌≡◌, ℕ, ◌≢◌, List, [], ◌∷◌, ◌++◌, Bool, true, false, cond, filter, length, refl, sym, ap, subst, ◌∙◌}
use Rattle.std.specs.Prelude.{Option, Some, None, Result, Ok, Err, MatchResult, All, AllPairs, IsFalse, nat_lt}
use Rattle.std.specs.Option.{option_or}
use Rattle.std.proofs.lemmas.List.Elements.{All-head, All-tail}
use Rattle.tab_edm.specs.Entities.{EntityView, IsEntity, property_refusal, first_refusal, entity_refusal, entity_size, entity_or_refusal, made, IsRising}
use Rattle.tab_edm.specs.Values.{is_reserved, IsInTime}
use Rattle.std.specs.List.Sorted.{IsPermutation}
use Rattle.tab_edm.specs.declared.values.Property.{Property}
use Rattle.tab_edm.specs.declared.entities.EdmRefused.{EdmRefused}
use Rattle.tab_edm.specs.declared.entities.TheConstants.{MOST_PROPERTIES, MOST_SIZE}
use Rattle.tab_edm.proofs.Refusals.{first_none, each_allowed}
use Rattle.tab_ops.specs.Changes.{within_limits, merged, merge_outcome}
use Rattle.tab_ops.specs.Merges.{is_kept, refusal_for}
use Rattle.tab_ops.specs.declared.groups.OpRefused.{OpRefused}
use Rattle.tab_ops.specs.declared.groups.OpRefused.TheVariants.{TooMany, TooLarge}
use Rattle.tab_ops.proofs.Properties.{merged_all, merged_moves, merged_rising, joined_all, joined_differ}

-- no property of an entity has a fault
properties_allowed : (pk_units rk_units : ℕ) (ps : List Property) → IsEntity pk_units rk_units ps → All (λ p. property_refusal p ≡ None) ps
unfolding entity_refusal
properties_allowed pk_units rk_units ps entity = each_allowed ps (first_none _ _ entity.allowed)

first_refusal-all : (ps : List Property) → All (λ p. property_refusal p ≡ None) ps → first_refusal ps ≡ None
unfolding first_refusal
first_refusal-all [] h = refl
first_refusal-all (p ∷ ps) h =
    ap (λ r. option_or r (first_refusal ps)) (All-head (λ q. property_refusal q ≡ None) p ps h) ∙ first_refusal-all ps (All-tail (λ q. property_refusal q ≡ None) p ps h)

-- what is made of properties without a fault is within the limits, or refused by them
limits_of_made : (index pk_units rk_units : ℕ) (ps : List Property) (r : Result EntityView EdmRefused) → first_refusal ps ≡ None → r ≡ made pk_units rk_units ps
    → MatchResult r (λ entity. within_limits index (record { properties = ps; pk_units = pk_units; rk_units = rk_units }) ≡ Ok (Some entity)) (λ why. within_limits index (record { properties = ps; pk_units = pk_units; rk_units = rk_units }) ≡ Err (refusal_for index why))
unfolding made entity_refusal
limits_of_made index pk_units rk_units ps r none is = rw (is, none) (by_test (nat_lt MOST_PROPERTIES (length ps)) (nat_lt MOST_SIZE (entity_size pk_units rk_units ps)))
  where
    entity : EntityView
    entity = record { properties = ps; pk_units = pk_units; rk_units = rk_units }

    outcome : Bool → Bool → Result (Option EntityView) OpRefused
    outcome b c = cond b (Err (TooMany index)) (cond c (Err (TooLarge index)) (Ok (Some entity)))

    by_test : (b c : Bool) → MatchResult (entity_or_refusal entity (cond b (Some EdmRefused.TooMany) (cond c (Some EdmRefused.TooLarge) None))) (λ one. outcome b c ≡ Ok (Some one)) (λ why. outcome b c ≡ Err (refusal_for index why))
    by_test true c = refl
    by_test false true = refl
    by_test false false = refl

-- what a merge comes to, from what is made of its properties in any order
pub merge_made : (index pk_units rk_units : ℕ) (kept given : EntityView) (joined : List Property) (r : Result EntityView EdmRefused)
    → IsEntity kept.pk_units kept.rk_units kept.properties → IsEntity given.pk_units given.rk_units given.properties
    → joined ≡ filter (is_kept given.properties) kept.properties ++ given.properties → pk_units ≡ given.pk_units → rk_units ≡ given.rk_units
    → ((sorted : List Property) → IsPermutation joined sorted → IsRising sorted → r ≡ made pk_units rk_units sorted)
    → MatchResult r (λ entity. merge_outcome index kept given ≡ Ok (Some entity)) (λ why. merge_outcome index kept given ≡ Err (refusal_for index why))
unfolding merge_outcome
merge_made index pk_units rk_units kept given joined r own others is pk rk exact =
    let sorted = merged kept.properties given.properties in
    let moves : IsPermutation joined sorted = subst (λ (ps : List Property). IsPermutation ps sorted) (sym is) (merged_moves kept.properties given.properties others.rising) in
    let none : first_refusal sorted ≡ None = first_refusal-all sorted (merged_all (λ p. property_refusal p ≡ None) kept.properties given.properties others.rising (properties_allowed kept.pk_units kept.rk_units kept.properties own) (properties_allowed given.pk_units given.rk_units given.properties others)) in
    let same : r ≡ made given.pk_units given.rk_units sorted = exact sorted moves (merged_rising kept.properties given.properties own.rising) ∙ (ap (λ (n : ℕ). made n rk_units sorted) pk ∙ ap (λ (n : ℕ). made given.pk_units n sorted) rk) in
    limits_of_made index given.pk_units given.rk_units sorted r none same

-- the joined properties are as the making of an entity asks it
pub joined_distinct : (kept given : EntityView) (joined : List Property) → IsEntity kept.pk_units kept.rk_units kept.properties → IsEntity given.pk_units given.rk_units given.properties
    → joined ≡ filter (is_kept given.properties) kept.properties ++ given.properties → AllPairs (λ a b. a.name ≢ b.name) joined
joined_distinct kept given joined own others is =
    subst (AllPairs (λ a b. a.name ≢ b.name)) (sym is) (joined_differ kept.properties given.properties own.rising others.rising)

pub joined_unreserved : (kept given : EntityView) (joined : List Property) → IsEntity kept.pk_units kept.rk_units kept.properties → IsEntity given.pk_units given.rk_units given.properties
    → joined ≡ filter (is_kept given.properties) kept.properties ++ given.properties → All (λ p. IsFalse (is_reserved p.name)) joined
joined_unreserved kept given joined own others is =
    subst (All (λ p. IsFalse (is_reserved p.name))) (sym is) (joined_all (λ p. IsFalse (is_reserved p.name)) kept.properties given.properties own.unreserved others.unreserved)

pub joined_in_time : (kept given : EntityView) (joined : List Property) → IsEntity kept.pk_units kept.rk_units kept.properties → IsEntity given.pk_units given.rk_units given.properties
    → joined ≡ filter (is_kept given.properties) kept.properties ++ given.properties → All (λ p. IsInTime p.value) joined
joined_in_time kept given joined own others is =
    subst (All (λ p. IsInTime p.value)) (sym is) (joined_all (λ p. IsInTime p.value) kept.properties given.properties own.in_time others.in_time)
