use Rattle.std.proofs.Common.{◌∙◌, ap}
use Rattle.serde_json.specs.Written.{compact_text, has_float}
use Rattle.tab_json.specs.Tables.{tables_json}
use Rattle.tab_json.proofs.Floatless.{floatless-tables_data}
use Rattle.tab_json.proofs.tables.write_tables.Goals as goal

pub returns : goal.returns
unfolding tables_json
returns c =
    c.in_ok-to_string.ensures.text (ap has_float c.in_ok-value.ensures ∙ floatless-tables_data c.args.account.now c.args.names.now c.args.form.now)
    ∙ ap compact_text c.in_ok-value.ensures
