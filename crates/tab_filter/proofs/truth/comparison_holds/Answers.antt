use Rattle.std.proofs.Common.{ℕ, List, Some, refl, sym, ap, ◌∙◌}
use Rattle.tab_edm.specs.declared.values.Value.TheVariants.{Text, Moment}
use Rattle.tab_edm.specs.Entities.{value_of}
use Rattle.tab_filter.specs.declared.targets.Target.TheVariants.{PartitionKey, RowKey, Timestamp, Property}
use Rattle.tab_filter.specs.declared.trees.Comparison.{Comparison}
use Rattle.tab_filter.proofs.TargetLaws.{holds_of, holds_of_none}
use Rattle.tab_filter.proofs.truth.comparison_holds.Goals as goal

pub returns-in-PartitionKey : goal.returns-in-PartitionKey
returns-in-PartitionKey c =
    holds_of (record { pk = c.args.pk.now; rk = c.args.rk.now; tick = c.args.tick; properties = c.args.entity.now.properties }) c.comparison-comparison.result.now c.args.classified.now PartitionKey (Text c.as_str.result.now) c.text_holds.result
    c.comparison-comparison.ensures (sym c.in-PartitionKey.is ∙ c.target.ensures) (ap (λ (t : List ℕ). Some (Text t)) (sym c.as_str.ensures.text)) c.text_holds.ensures

pub returns-in-RowKey : goal.returns-in-RowKey
returns-in-RowKey c =
    holds_of (record { pk = c.args.pk.now; rk = c.args.rk.now; tick = c.args.tick; properties = c.args.entity.now.properties }) c.comparison-comparison.result.now c.args.classified.now RowKey (Text c.as_str-in-RowKey.result.now) c.text_holds-in-RowKey.result
    c.comparison-comparison.ensures (sym c.in-RowKey.is ∙ c.target.ensures) (ap (λ (t : List ℕ). Some (Text t)) (sym c.as_str-in-RowKey.ensures.text)) c.text_holds-in-RowKey.ensures

pub returns-in-Timestamp : goal.returns-in-Timestamp
returns-in-Timestamp c =
    holds_of (record { pk = c.args.pk.now; rk = c.args.rk.now; tick = c.args.tick; properties = c.args.entity.now.properties }) c.comparison-comparison.result.now c.args.classified.now Timestamp (Moment c.args.tick) c.value_holds.result
    c.comparison-comparison.ensures (sym c.in-Timestamp.is ∙ c.target.ensures) refl c.value_holds.ensures

pub returns-in-Some : goal.returns-in-Some
returns-in-Some c =
    let name = c.as_str-in-Property.ensures.text ∙ ap (λ (own : Comparison). own.name) c.comparison-comparison.ensures in
    holds_of (record { pk = c.args.pk.now; rk = c.args.rk.now; tick = c.args.tick; properties = c.args.entity.now.properties }) c.comparison-comparison.result.now c.args.classified.now Property c.in-Some.value.now c.value_holds-in-Some.result
    c.comparison-comparison.ensures (sym c.in-Property.is ∙ c.target.ensures) (ap (λ (n : List ℕ). value_of n c.args.entity.now.properties) (sym name) ∙ sym c.in-Some.ensures) c.value_holds-in-Some.ensures

pub returns-in-None : goal.returns-in-None
returns-in-None c =
    let name = c.as_str-in-Property.ensures.text ∙ ap (λ (own : Comparison). own.name) c.comparison-comparison.ensures in
    holds_of_none (record { pk = c.args.pk.now; rk = c.args.rk.now; tick = c.args.tick; properties = c.args.entity.now.properties }) c.args.classified.now Property (sym c.in-Property.is ∙ c.target.ensures)
    (ap (λ (n : List ℕ). value_of n c.args.entity.now.properties) (sym name) ∙ sym c.in-None.ensures)
