use Rattle.std.proofs.Common.{◌∙◌, ap, arith}
use Rattle.std.proofs.lemmas.List.Sorted.{IsPermutation-refl}
use Rattle.tab_codec.proofs.EntityFacts.{names_differ, entity_parts, entity_gives, made_is}
use Rattle.tab_codec.proofs.entities.read_entity.Goals as goal

pub new-requires-clause-distinct : goal.new-requires-clause-distinct
new-requires-clause-distinct c =
    names_differ c.in_ok-properties.properties.items (entity_parts c.args.pk_units c.args.rk_units c.args.bytes.now c.in_ok-count.count c.in_ok-count.rest.now c.in_ok-properties.properties.items c.in_ok-properties.rest.now (λ i. omega (arith, c.type_inv.bytes i)) c.requires.pk c.requires.rk c.in_ok-count.ensures c.in_ok-properties.ensures).rising

pub new-requires-clause-unreserved : goal.new-requires-clause-unreserved
new-requires-clause-unreserved c =
    (entity_parts c.args.pk_units c.args.rk_units c.args.bytes.now c.in_ok-count.count c.in_ok-count.rest.now c.in_ok-properties.properties.items c.in_ok-properties.rest.now (λ i. omega (arith, c.type_inv.bytes i)) c.requires.pk c.requires.rk c.in_ok-count.ensures c.in_ok-properties.ensures).unreserved

pub new-requires-clause-in_time : goal.new-requires-clause-in_time
new-requires-clause-in_time c =
    (entity_parts c.args.pk_units c.args.rk_units c.args.bytes.now c.in_ok-count.count c.in_ok-count.rest.now c.in_ok-properties.properties.items c.in_ok-properties.rest.now (λ i. omega (arith, c.type_inv.bytes i)) c.requires.pk c.requires.rk c.in_ok-count.ensures c.in_ok-properties.ensures).in_time

pub returns-in-Ok : goal.returns-in-Ok
returns-in-Ok c =
    let ps = c.in_ok-properties.properties.items in
    let m = entity_parts c.args.pk_units c.args.rk_units c.args.bytes.now c.in_ok-count.count c.in_ok-count.rest.now ps c.in_ok-properties.rest.now (λ i. omega (arith, c.type_inv.bytes i)) c.requires.pk c.requires.rk c.in_ok-count.ensures c.in_ok-properties.ensures in
    let same = made_is _ _ (c.in-Ok.ensures.exact (λ e. absurd cc) ps (IsPermutation-refl ps) m.rising ∙ m.made) in
    record {
      read = entity_gives c.args.pk_units c.args.rk_units c.args.bytes.now c.in_ok-count.count c.in_ok-count.rest.now ps c.in_ok-properties.rest.now c.in-Ok.entity c.in_ok-count.ensures c.in_ok-properties.ensures same;
      units = (ap (λ e. e.pk_units) same, ap (λ e. e.rk_units) same);
    }
