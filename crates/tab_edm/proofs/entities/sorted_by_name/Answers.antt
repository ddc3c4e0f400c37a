use Rattle.std.proofs.Common.{rules}
use Rattle.std.proofs.lemmas.List.Sorted.{answers_always}
use Rattle.tab_edm.specs.Entities.{name_lt}
use Rattle.tab_edm.proofs.Order.{name_order, rising_from_sorted}
use Rattle.tab_edm.proofs.entities.sorted_by_name.Goals as goal

pub returns-clause-rising : goal.returns-clause-rising
returns-clause-rising c =
    rising_from_sorted c.args.properties.items _ c.requires c.sort_unstable_by.ensures.permutation
    (c.sort_unstable_by.ensures.sorted name_lt name_order (answers_always _ _ _ (λ f a r g h. search rules)))
