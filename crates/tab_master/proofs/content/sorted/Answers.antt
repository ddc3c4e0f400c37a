use Rattle.std.proofs.Common.{rules}
use Rattle.std.specs.Ordering.{is_lt}
use Rattle.std.proofs.lemmas.List.Sorted.{answers_always, ranks_by}
use Rattle.tab_history.specs.World.{Named}
use Rattle.tab_master.specs.Spelled.{by_name}
use Rattle.tab_master.proofs.OrderedLaws.{in_order_from_sorted}
use Rattle.tab_master.proofs.SpellingLaws.{by_name_total}
use Rattle.tab_master.proofs.content.sorted.Goals as goal

pub returns-clause-in_order : goal.returns-clause-in_order
returns-clause-in_order c =
    in_order_from_sorted by_name by_name_total _
    (c.sort_unstable_by.ensures.sorted (λ (a b : Named). is_lt (by_name a b)) (ranks_by by_name_total (λ (a : Named). a)) (answers_always _ _ _ (λ f a r g h. search rules)))
