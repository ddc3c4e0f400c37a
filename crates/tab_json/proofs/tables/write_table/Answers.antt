use Rattle.std.proofs.Common.{◌∙◌, ap}
use Rattle.serde_json.specs.Written.{compact_text, has_float}
use Rattle.tab_json.specs.Tables.{table_json}
use Rattle.tab_json.proofs.Floatless.{floatless-table_data}
use Rattle.tab_json.proofs.tables.write_table.Goals as goal

pub returns : goal.returns
unfolding table_json
returns c =
    let value = rw c.as_str.ensures.text at c.in_ok-value.ensures in
    c.in_ok-to_string.ensures.text (ap has_float value ∙ floatless-table_data c.args.account.now c.args.name.now c.args.form.now)
    ∙ ap compact_text value
