use Rattle.tab_http.proofs.DecimalLemmas.{value_read}
use Rattle.tab_http.proofs.decimals.decimal_value.Goals as goal

pub returns-clause-value : goal.returns-clause-value
returns-clause-value c = value_read _ _ c.read_decimal.ensures.small c.read_decimal.ensures.some c.read_decimal.ensures.none
