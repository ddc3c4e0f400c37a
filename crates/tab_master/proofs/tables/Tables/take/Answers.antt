use Rattle.std.proofs.Common.{◌==◌, not, ap, sym, ◌∙◌, subst, rules, IsTrue}
use Rattle.std.specs.Ordering.{is_lt}
use Rattle.std.proofs.lemmas.Fn.{filter_same}
use Rattle.std.proofs.lemmas.List.Kept.{AllPairs-filter}
use Rattle.tab_keys.specs.Order.{name_cmp}
use Rattle.tab_history.specs.World.{Named}
use Rattle.tab_master.specs.Spelled.{without_table}
use Rattle.tab_master.specs.Tables.{TablesView, AreInOrder}
use Rattle.tab_master.proofs.tables.Tables.take.Goals as goal

pub invariant_of-self : goal.invariant_of-self
invariant_of-self c =
    subst AreInOrder (sym (filter_same _ (λ (one : Named). not (one.table == c.args.table)) _ (λ x b f h. search rules) _ _ c.retain.ensures.filtered))
    (AllPairs-filter (λ (a b : Named). IsTrue (is_lt (name_cmp a.spelling b.spelling))) (λ (one : Named). not (one.table == c.args.table)) c.self.inside.tables.items c.self.invariant)

pub returns : goal.returns
returns c =
    filter_same _ (λ (one : Named). not (one.table == c.args.table)) _ (λ x b f h. search rules) _ _ c.retain.ensures.filtered
    ∙ ap (λ (all : TablesView). without_table all.names c.args.table) c.self.view_is
