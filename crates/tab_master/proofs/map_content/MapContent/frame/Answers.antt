use Rattle.std.proofs.Common.{List, [], map, ap, sym, subst, ◌∙◌, AllPairs, IsTrue}
use Rattle.std.proofs.lemmas.Result.{IfOk-weaker}
use Rattle.tab_keys.specs.Order.{bound_lt}
use Rattle.tab_keys.specs.declared.bounds.Bound.TheVariants.{At}
use Rattle.tab_codec.specs.declared.frames.RangeRow.{RangeRow}
use Rattle.tab_codec.specs.declared.frames.Frame.TheVariants as frames
use Rattle.tab_master.specs.Maps.{MapView, range_row}
use Rattle.tab_master.proofs.MapRowLaws.{rows_rise, as_frame_rows}
use Rattle.tab_master.proofs.map_content.MapContent.frame.Goals as goal

pub map_frame-requires-clause-rising : goal.map_frame-requires-clause-rising
map_frame-requires-clause-rising c =
    subst (λ (l : List RangeRow). AllPairs (λ (a b : RangeRow). IsTrue (bound_lt a.span.lo b.span.lo)) l) (sym c.as_slice.ensures.value) (rows_rise (At 0 []) c.self.inside.rows.items c.self.invariant.tiles)

pub returns-clause-is : goal.returns-clause-is
returns-clause-is c =
    IfOk-weaker c.map_frame.result _ _
    (λ prepared is. is ∙ (ap (λ (l : List RangeRow). frames.Map c.self.inside.kept_range c.self.inside.kept_plan l) (c.as_slice.ensures.value ∙ sym (as_frame_rows c.self.inside.rows.items))
    ∙ ap (λ (v : MapView). frames.Map v.told.next_range v.told.next_plan (map range_row v.told.rows)) c.self.view_is))
    c.map_frame.ensures.is
