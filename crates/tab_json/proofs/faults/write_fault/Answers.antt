use Rattle.std.proofs.Common.{◌∙◌, ap}
use Rattle.serde_json.specs.Written.{compact_text, has_float}
use Rattle.tab_json.specs.Faults.{fault_json}
use Rattle.tab_json.proofs.Floatless.{floatless-fault_data}
use Rattle.tab_json.proofs.faults.write_fault.Goals as goal

pub returns : goal.returns
unfolding fault_json
returns c =
    c.in_ok-to_string.ensures.text (ap has_float c.in_ok-fault.ensures ∙ floatless-fault_data c.args.code.now c.args.value.now)
    ∙ ap compact_text c.in_ok-fault.ensures
