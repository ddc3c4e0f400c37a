use Rattle.std.proofs.Common.{◌≡◌, ◌∙◌, ap, sym, length, ℕ, List}
use Rattle.std.specs.Prelude.{Ok}
use Rattle.std.specs.Option.{option_copied}
use Rattle.tab_keys.specs.KeyTexts.{units_of}
use Rattle.tab_keys.specs.declared.keys.Key.{Key}
use Rattle.tab_ops.specs.Groups.{ItemView}
use Rattle.tab_ops.proofs.Planning.{IsFor, made_for}
use Rattle.tab_ops.proofs.plans.change_of.Goals as goal

pub invariant_of-result : goal.invariant_of-result
invariant_of-result c =
    let units : IsFor (length (units_of c.item.inside.pk)) (length (units_of c.item.inside.rk)) c.in-Some.entity =
    made_for _ _ c.args.index (option_copied c.get.result) c.item.inside.op c.in-Some.entity c.item.invariant (c.in_ok-entity.ensures.outcome ∙ ap Ok c.in-Some.is) in
    let pk : c.item.inside.pk ≡ c.in_ok-key.key.pk = ap (λ (item : ItemView). item.pk) c.item.view_is ∙ sym (ap (λ (key : Key). key.pk) c.in_ok-key.ensures) in
    let rk : c.item.inside.rk ≡ c.in_ok-key.key.rk = ap (λ (item : ItemView). item.rk) c.item.view_is ∙ sym (ap (λ (key : Key). key.rk) c.in_ok-key.ensures) in
    record {
      in_time = c.requires;
      pk_units = units.pk_units_are ∙ ap (λ (text : List ℕ). length (units_of text)) pk;
      rk_units = units.rk_units_are ∙ ap (λ (text : List ℕ). length (units_of text)) rk;
    }
