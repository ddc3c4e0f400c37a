use Rattle.std.proofs.Common.{◌≡◌, ◌*◌, ◌≤◌, ℕ, List, length, sym, subst, ◌∙◌}
use Rattle.std.specs.List.{flat_map}
use Rattle.tab_codec.specs.Spelling.{body, range_row_spelling}
use Rattle.tab_codec.specs.Frames.{IsShort, IsOrderly}
use Rattle.tab_codec.specs.declared.frames.RangeRow.{RangeRow}
use Rattle.tab_codec.specs.declared.frames.Frame.TheVariants as frames
use Rattle.tab_master.specs.Maps.{MapCommit, map_frame}
use Rattle.tab_master.proofs.MapShort.{commit_short}
use Rattle.tab_master.proofs.map_steps.MapStep.prepared.Goals as goal

pub prepare-requires-clause-short : goal.prepare-requires-clause-short
prepare-requires-clause-short c =
    let orderly = subst (λ (step : MapCommit). IsOrderly (map_frame step)) (sym c.self.view_is) c.requires in
    let olds : c.new.result ≡ c.self.inside.old_ranges.items = c.new.ensures ∙ (c.in_ok-numbers.ensures ∙ c.as_slice-2.ensures.value) in
    let news : c.new-2.result ≡ c.self.inside.new_rows.items = c.new-2.ensures ∙ (c.in_ok-copied.ensures ∙ c.as_slice-3.ensures.value) in
    let short = subst (λ (l : List RangeRow). length (flat_map range_row_spelling l) ≤ 6179 * length l) c.as_slice.ensures.value c.rows_are_short.ensures in
    subst (λ (l : List RangeRow). IsShort (body (frames.Commit c.self.inside.plan c.self.inside.next_range c.new.result l))) (sym news)
    (subst (λ (l : List ℕ). IsShort (body (frames.Commit c.self.inside.plan c.self.inside.next_range l c.self.inside.new_rows.items))) (sym olds)
    (commit_short c.self.inside.plan c.self.inside.next_range c.self.inside.old_ranges.items c.self.inside.new_rows.items orderly.0 orderly.1 short))
