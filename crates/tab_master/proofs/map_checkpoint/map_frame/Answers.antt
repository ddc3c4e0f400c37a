use Rattle.std.proofs.Common.{◌<◌, List, length, subst, sym, ◌∙◌, arith, AllPairs, IsTrue}
use Rattle.tab_keys.specs.Order.{bound_lt}
use Rattle.tab_codec.specs.Spelling.{body}
use Rattle.tab_codec.specs.Frames.{IsShort}
use Rattle.tab_codec.specs.declared.frames.RangeRow.{RangeRow}
use Rattle.tab_codec.specs.declared.frames.Frame.TheVariants as frames
use Rattle.tab_master.proofs.MapShort.{map_short}
use Rattle.tab_master.proofs.map_checkpoint.map_frame.Goals as goal

pub prepare-requires-clause-orderly : goal.prepare-requires-clause-orderly
prepare-requires-clause-orderly c =
    let few = c.requires.few in
    subst (λ (l : List RangeRow). (length l < 4_294_967_296) × AllPairs (λ (a b : RangeRow). IsTrue (bound_lt a.span.lo b.span.lo)) l)
    (sym (c.new.ensures ∙ c.in_ok-copied.ensures)) (omega (arith, few), c.requires.rising)

pub prepare-requires-clause-short : goal.prepare-requires-clause-short
prepare-requires-clause-short c =
    subst (λ (l : List RangeRow). IsShort (body (frames.Map c.args.next_range c.args.next_plan l))) (sym (c.new.ensures ∙ c.in_ok-copied.ensures))
    (map_short c.args.next_range c.args.next_plan c.args.rows.now c.requires.few c.rows_are_short.ensures)
