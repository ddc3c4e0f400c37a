use Rattle.std.proofs.Common.{sym, ◌∙◌}
use Rattle.tab_master.proofs.MapRowLaws.{in_yard_from, in_yard_test}
use Rattle.tab_master.proofs.map_rows.are_map.Goals as goal

pub returns-then-are_tiles : goal.returns-then-are_tiles
returns-then-are_tiles c = (
  λ is. (c.are_tiles.ensures.0 c.if-are_tiles.true, in_yard_from c.args.servers c.args.rows.now (sym c.are_in_yard.ensures ∙ is)),
  λ both. c.are_in_yard.ensures ∙ in_yard_test c.args.servers c.args.rows.now both.1,
)
