use Rattle.std.proofs.Common.{length, ap, arith}
use Rattle.tab_codec.proofs.RowLaws.{few_properties}
use Rattle.tab_codec.proofs.writing.put_row.Goals as goal

pub overflow_cast-properties : goal.overflow_cast-properties
overflow_cast-properties c = omega (arith, few_properties _ _ _ c.properties-properties.ensures.entity, ap length c.properties-properties.ensures.properties)
