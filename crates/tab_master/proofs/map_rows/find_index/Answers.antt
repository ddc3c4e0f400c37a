use Rattle.std.proofs.Common.{rules}
use Rattle.std.proofs.lemmas.Fn.{always_returns_same}
use Rattle.tab_master.proofs.MapRowLaws.{has_begun, begun_is_partitioned, some_begun, begun_at}
use Rattle.tab_master.proofs.map_rows.find_index.Goals as goal

pub overflow_sub-result : goal.overflow_sub-result
overflow_sub-result c =
    some_begun c.args.rows.now c.args.key.now c.partition_point-begun.result c.requires
    (c.partition_point-begun.ensures.partitioned (has_begun c.args.key.now) (always_returns_same _ _ _ (λ a r q k. search rules)) (begun_is_partitioned c.args.rows.now c.args.key.now c.requires))

pub returns : goal.returns
returns c =
    begun_at c.args.rows.now c.args.key.now c.partition_point-begun.result c.requires c.partition_point-begun.ensures.bound
    (c.partition_point-begun.ensures.partitioned (has_begun c.args.key.now) (always_returns_same _ _ _ (λ a r q k. search rules)) (begun_is_partitioned c.args.rows.now c.args.key.now c.requires))
