use Rattle.std.proofs.Common.{◌≡◌, ◌*◌, ◌≤◌, ◌<◌, List, ℕ, length, subst, arith}
use Rattle.std.specs.List.{flat_map}
use Rattle.std.proofs.lemmas.List.{take_all}
use Rattle.tab_codec.specs.declared.frames.RangeRow.{RangeRow}
use Rattle.tab_codec.specs.Spelling.{range_row_spelling}
use Rattle.tab_master.proofs.MapShort.{rows_more}
use Rattle.tab_master.proofs.map_checkpoint.rows_are_short.Goals as goal

pub loop-row-preserved : goal.loop-row-preserved
loop-row-preserved c =
    let within : c.loop-row.row-index < length c.args.rows.now = omega arith in
    rows_more c.args.rows.now c.loop-row.row-index c.row-item.result within c.row-item.is c.row_is_short.ensures c.loop-row.invariant

pub returns : goal.returns
returns c =
    let end : c.loop-row.row-index ≡ length c.args.rows.now = omega arith in
    subst (λ (n : ℕ). length (flat_map range_row_spelling c.args.rows.now) ≤ 6179 * n) end
    (subst (λ (l : List RangeRow). length (flat_map range_row_spelling l) ≤ 6179 * c.loop-row.row-index) (take_all c.loop-row.row-index c.args.rows.now (omega arith)) c.loop-row.invariant)
