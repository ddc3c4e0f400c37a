use Rattle.std.proofs.Common.{rules}
use Rattle.std.proofs.lemmas.Fn.{always_returns_same}
use Rattle.std.specs.Prelude.{not}
use Rattle.tab_rows.specs.Rows.{is_past, rows_past}
use Rattle.tab_rows.proofs.IndexLemmas.{partitioned, rest_from_point}
use Rattle.tab_rows.proofs.RowLaws.{past_falls, not_not}
use Rattle.tab_rows.proofs.rows.count_up_to.Goals as goal

pub returns-clause-rest : goal.returns-clause-rest
unfolding rows_past
returns-clause-rest c =
    let table = c.args.table in
    let pk = c.args.pk.now in
    rest_from_point (λ row. not (is_past table pk row.key)) (λ row. is_past table pk row.key) c.args.rows.now c.partition_point.result (λ row. not_not (is_past table pk row.key)) c.partition_point.ensures.bound
    (c.partition_point.ensures.partitioned (λ row. not (is_past table pk row.key)) (always_returns_same _ _ _ (λ a r q k. search rules)) (partitioned (λ row. not (is_past table pk row.key)) c.args.rows.now (past_falls table pk) c.requires))
