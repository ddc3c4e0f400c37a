use Rattle.std.proofs.Common.{Some, ap, sym, ◌∙◌, rules, refl}
use Rattle.tab_edm.specs.declared.values.Property.{Property}
use Rattle.std.proofs.lemmas.Fn.{always_returns_same}
use Rattle.tab_edm.proofs.Lookups.{against, search_found, search_missed}
use Rattle.tab_edm.proofs.entities.value_among.Goals as goal

pub returns-in-Ok : goal.returns-in-Ok
returns-in-Ok c =
    let found = c.in-Ok.ensures.position (against c.args.name.now) (always_returns_same _ _ _ (λ a r g h. search rules)) in
    ap (λ (p : Property). Some p.value) (sym c.index-properties-index.is) ∙ search_found c.args.name.now c.args.properties.now c.args.properties.now c.in-Ok.index c.index-properties-index.result refl c.requires c.in-Ok.ensures.bound found c.index-properties-index.is

pub returns-in-Err : goal.returns-in-Err
returns-in-Err c =
    let missed = c.in-Err.ensures.position (against c.args.name.now) (always_returns_same _ _ _ (λ a r g h. search rules)) in
    search_missed c.args.name.now c.args.properties.now c.args.properties.now c.in-Err.field-0 refl c.requires missed
