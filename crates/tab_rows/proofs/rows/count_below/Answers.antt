use Rattle.std.proofs.Common.{refl, rules}
use Rattle.std.proofs.lemmas.Fn.{always_returns_same}
use Rattle.tab_keys.specs.Order.{key_lt}
use Rattle.std.specs.Prelude.{not}
use Rattle.tab_rows.specs.Rows.{rows_from}
use Rattle.tab_rows.proofs.IndexLemmas.{partitioned, rest_from_point, below_falls}
use Rattle.tab_rows.proofs.rows.count_below.Goals as goal

pub returns-clause-rest : goal.returns-clause-rest
unfolding rows_from
returns-clause-rest c =
    let key = c.args.key.now in
    rest_from_point (λ row. key_lt row.key key) (λ row. not (key_lt row.key key)) c.args.rows.now c.partition_point.result (λ row. refl) c.partition_point.ensures.bound
    (c.partition_point.ensures.partitioned (λ row. key_lt row.key key) (always_returns_same _ _ _ (λ a r q k. search rules)) (partitioned (λ row. key_lt row.key key) c.args.rows.now (below_falls key) c.requires))
