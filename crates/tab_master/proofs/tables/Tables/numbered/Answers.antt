use Rattle.std.proofs.Common.{◌≡◌, ◌∙◌, ap, subst, rules, List, IsPermutation}
use Rattle.std.specs.Ordering.{is_lt}
use Rattle.std.proofs.lemmas.List.Sorted.{answers_always, ranks_by}
use Rattle.tab_history.specs.World.{Named}
use Rattle.tab_master.specs.Spelled.{by_number}
use Rattle.tab_master.specs.Tables.{TablesView}
use Rattle.tab_master.proofs.OrderedLaws.{in_order_from_sorted}
use Rattle.tab_master.proofs.SpellingLaws.{by_number_total}
use Rattle.tab_master.proofs.CheckpointLaws.{numbered_is}
use Rattle.tab_master.proofs.tables.Tables.numbered.Goals as goal

moved_from : (xs ys sorted : List Named) → xs ≡ ys → IsPermutation xs sorted → IsPermutation ys sorted
moved_from xs ys sorted is moved = subst (λ (zs : List Named). IsPermutation zs sorted) is moved

pub returns : goal.returns
returns c =
    let up = in_order_from_sorted by_number by_number_total _
    (c.sort_unstable_by.ensures.sorted (λ (a b : Named). is_lt (by_number a b)) (ranks_by by_number_total (λ (a : Named). a)) (answers_always _ _ _ (λ f a r g h. search rules))) in
    numbered_is c.args.self.now.names _ c.requires
    (moved_from _ _ _ (c.in_ok-rows.ensures ∙ (c.as_slice.ensures.value ∙ ap (λ (all : TablesView). all.names) c.self.view_is)) c.sort_unstable_by.ensures.permutation)
    up
