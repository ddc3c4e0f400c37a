use Rattle.std.proofs.Common.{subst}
use Rattle.tab_rows.specs.Rows.{IsKept}
use Rattle.tab_rows.proofs.row.Row.kept.Goals as goal

pub returns : goal.returns
returns c =
    subst IsKept c.self.view_is
    (record {
      key = record { table = c.read_table.ensures; pk = c.as_str.ensures.key; rk = c.as_str-2.ensures.key };
      row = c.self.invariant;
      entity = c.properties.ensures.entity;
      properties = c.properties.ensures.typed;
    })
