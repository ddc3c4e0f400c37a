use Rattle.std.proofs.Common.{◌≡◌, Ok, Vec, Global, ◌∙◌, sym, ap, subst, length, arith}
use Rattle.std.specs.Prelude.{vec_items, All}
use Rattle.tab_edm.specs.Values.{IsProperty}
use Rattle.tab_edm.specs.Entities.{IsEntity, first_refusal, entity_size}
use Rattle.tab_edm.specs.declared.values.Property.{Property}
use Rattle.tab_edm.proofs.Refusals.{told, made-first, made-many, made-large, made-None, refused_not}
use Rattle.tab_edm.proofs.entities.Entity.from_sorted.Goals as goal

pub returns-in-Some : goal.returns-in-Some
returns-in-Some c _ =
    made-first c.args.pk_units c.args.rk_units c.args.properties.items c.refused.result
    (told _ c.deref.result.now c.in-Some.index c.in-Some.fault c.swap_remove.result _ c.deref.ensures.value c.in-Some.ensures.first.1 c.swap_remove.ensures.value c.refused.ensures)

pub returns-then-len-gt-MOST_PROPERTIES : goal.returns-then-len-gt-MOST_PROPERTIES
returns-then-len-gt-MOST_PROPERTIES c _ =
    made-many c.args.pk_units c.args.rk_units c.args.properties.items (ap first_refusal (sym c.deref.ensures.value) ∙ c.in_default.ensures.first) (omega (arith, ap length c.deref.ensures.value))

pub returns-then-size-gt-MOST_SIZE : goal.returns-then-size-gt-MOST_SIZE
returns-then-size-gt-MOST_SIZE c _ =
    made-large c.args.pk_units c.args.rk_units c.args.properties.items (ap first_refusal (sym c.deref.ensures.value) ∙ c.in_default.ensures.first) (omega (arith, ap length c.deref.ensures.value)) (omega (arith, ap (entity_size c.args.pk_units c.args.rk_units) c.deref-2.ensures.value))

pub invariant_of-result : goal.invariant_of-result
invariant_of-result c =
    subst (λ (v : Vec Property Global). IsEntity c.args.pk_units c.args.rk_units (vec_items v) × (c.entity_size-size.result ≡ entity_size c.args.pk_units c.args.rk_units (vec_items v)) × All IsProperty (vec_items v)) (sym c.in-Ok.ensures.ok) (
      record {
        rising = c.requires.rising;
        unreserved = c.requires.unreserved;
        in_time = c.requires.in_time;
        allowed = refused_not c.args.pk_units c.args.rk_units c.args.properties.items (ap first_refusal (sym c.deref.ensures.value) ∙ c.in_default.ensures.first) (omega (arith, ap length c.deref.ensures.value)) (omega (arith, ap (entity_size c.args.pk_units c.args.rk_units) c.deref-2.ensures.value));
      },
      rw c.deref-2.ensures.value at c.entity_size-size.ensures,
      rw c.deref.ensures.value at c.in_default.ensures.typed,
    )

pub returns : goal.returns
returns c _ =
    ap (λ (v : Vec Property Global). Ok (record { properties = vec_items v; pk_units = c.args.pk_units; rk_units = c.args.rk_units })) c.in-Ok.ensures.ok
    ∙ made-None c.args.pk_units c.args.rk_units c.args.properties.items
    (refused_not c.args.pk_units c.args.rk_units c.args.properties.items (ap first_refusal (sym c.deref.ensures.value) ∙ c.in_default.ensures.first) (omega (arith, ap length c.deref.ensures.value)) (omega (arith, ap (entity_size c.args.pk_units c.args.rk_units) c.deref-2.ensures.value)))
