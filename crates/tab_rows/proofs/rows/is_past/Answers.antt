use Rattle.std.proofs.Common.{◌≡◌, rules}
use Rattle.tab_rows.specs.Rows.{is_past}
use Rattle.tab_rows.proofs.RowLaws.{is_past-is}
use Rattle.tab_rows.proofs.rows.is_past.Goals as goal

pub returns-clause-above : goal.returns-clause-above
returns-clause-above c =
    let test : c.is_lt.result ≡ is_past c.args.table c.args.pk.now c.args.key.now = search rules in
    rw test (is_past-is c.args.table c.args.pk.now c.args.key.now)
