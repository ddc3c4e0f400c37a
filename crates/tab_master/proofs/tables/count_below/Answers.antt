use Rattle.std.proofs.Common.{rules}
use Rattle.std.proofs.lemmas.Fn.{always_returns_same}
use Rattle.std.specs.Ordering.{is_lt}
use Rattle.tab_keys.specs.Order.{name_cmp}
use Rattle.tab_master.proofs.TableIndexes.{partitioned, begins_at_point}
use Rattle.tab_master.proofs.tables.count_below.Goals as goal

pub returns : goal.returns
returns c =
    begins_at_point c.args.tables.now c.args.name.now c.partition_point.result c.partition_point.ensures.bound
    (c.partition_point.ensures.partitioned (λ table. is_lt (name_cmp table.spelling c.args.name.now)) (always_returns_same _ _ _ (λ a r q k. search rules))
    (partitioned c.args.tables.now c.args.name.now c.requires))
