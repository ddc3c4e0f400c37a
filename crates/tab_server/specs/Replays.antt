-- Which ranges a server's frames spell.
use Rattle.std.specs.Prelude.{◌≡◌, ℕ, List, [], ◌∷◌, Bool, true, false, ◌==◌, Option, Some, None, option_map, if◌then◌else◌}
use Rattle.std.specs.List.{AllByRecursion}
use Rattle.tab_keys.specs.Spans.{Interval}
use Rattle.tab_rows.specs.Rows.{RowView, with_row}
use Rattle.tab_rows.specs.declared.changes.Change.{Change}
use Rattle.tab_ops.specs.Changes.{applied}
use Rattle.tab_codec.specs.declared.frames.Frame.{Frame}
use Rattle.tab_codec.specs.declared.frames.Frame.TheVariants as frames

-- a range, as frames spell it: its number, its keys, its rows, its next tick, and whether it is whole
pub record SpelledRange : Type 0 where
  pub range : ℕ
  pub span : Interval
  pub rows : List RowView
  pub next_tick : ℕ
  pub is_whole : Bool

-- the rows with others put at their keys, one after another
abbrev pub with_rows : List RowView → List RowView → List RowView
with_rows rows [] = rows
with_rows rows (row ∷ others) = with_rows (with_row rows row) others

-- a range with more rows
abbrev pub more_rows : List RowView → SpelledRange → SpelledRange
more_rows rows one = record one { rows = with_rows one.rows rows }

-- a range that is whole, with its next tick
abbrev pub made_whole : ℕ → SpelledRange → SpelledRange
made_whole next_tick one = record one { next_tick = next_tick; is_whole = true }

-- a range whose rows are changed, with the next tick behind the changes
abbrev pub with_changes : List Change → ℕ → SpelledRange → SpelledRange
with_changes changes next_tick one = record one { rows = applied one.rows changes; next_tick = next_tick }

-- a range, as a change of the range of a number leaves it
abbrev pub changed_at : ℕ → List Change → ℕ → SpelledRange → SpelledRange
changed_at range changes next_tick one = if range == one.range then with_changes changes next_tick one else one

-- What a frame makes of the range of a number, where it was begun: Begin begins it without rows, and forgets an earlier
-- copy; Rows and a Change give it rows, Whole and a Change its next tick. Frames of other ranges leave it as it is.
abbrev pub spelled_next : ℕ → Option SpelledRange → Frame → Option SpelledRange
spelled_next number so_far (frames.Begin range span next_tick) =
    if range == number then Some (record { range = range; span = span; rows = []; next_tick = next_tick; is_whole = false }) else so_far
spelled_next number so_far (frames.Rows range rows) = if range == number then option_map (more_rows rows) so_far else so_far
spelled_next number so_far (frames.Whole range next_tick) = if range == number then option_map (made_whole next_tick) so_far else so_far
spelled_next number so_far (frames.Change range next_tick changes) =
    if range == number then option_map (with_changes changes next_tick) so_far else so_far
spelled_next number so_far frame = so_far

abbrev pub spelled_from : ℕ → Option SpelledRange → List Frame → Option SpelledRange
spelled_from number so_far [] = so_far
spelled_from number so_far (frame ∷ frames) = spelled_from number (spelled_next number so_far frame) frames

-- the range of a number as the frames spell it, where they begin it
abbrev pub spelled_range : List Frame → ℕ → Option SpelledRange
spelled_range frames number = spelled_from number None frames

-- the frames spell each of these ranges; what they spell besides counts for nothing
abbrev pub SpellsEach : List Frame → List SpelledRange → Type 0
SpellsEach frames ranges = AllByRecursion (λ one. spelled_range frames one.range ≡ Some one) ranges
