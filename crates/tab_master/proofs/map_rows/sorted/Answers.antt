use Rattle.std.proofs.Common.{rules}
use Rattle.std.specs.Ordering.{is_lt}
use Rattle.std.proofs.lemmas.List.Sorted.{answers_always, ranks_by}
use Rattle.tab_codec.specs.declared.frames.RangeRow.{RangeRow}
use Rattle.tab_master.proofs.OrderedLaws.{in_order_from_sorted}
use Rattle.tab_master.proofs.MapRowLaws.{row_order, row_order_total}
use Rattle.tab_master.proofs.map_rows.sorted.Goals as goal

pub returns-clause-in_order : goal.returns-clause-in_order
returns-clause-in_order c =
    in_order_from_sorted row_order row_order_total _
    (c.sort_unstable_by.ensures.sorted (λ (a b : RangeRow). is_lt (row_order a b)) (ranks_by row_order_total (λ (a : RangeRow). a)) (answers_always _ _ _ (λ f a r g h. search rules)))
