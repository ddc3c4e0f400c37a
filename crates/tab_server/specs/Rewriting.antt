-- The frames to which a checkpoint rewrites the ranges of a server.
use Rattle.std.specs.Prelude.{◌≡◌, ◌<◌, ℕ, List, [], ◌∷◌, ◌++◌, length, map, flat_map, Bool, ◌||◌, nat_le, AllPairs, true, if◌then◌else◌}
use Rattle.std.specs.List.{AllByRecursion, list_all}
use Rattle.tab_keys.specs.Spans.{has}
use Rattle.tab_rows.specs.Rows.{RowView, AreRising}
use Rattle.tab_codec.specs.Spelling.{body}
use Rattle.tab_codec.specs.Frames.{HasSpelling}
use Rattle.tab_codec.specs.declared.frames.Frame.{Frame}
use Rattle.tab_codec.specs.declared.frames.Frame.TheVariants as frames
use Rattle.tab_server.specs.Replays.{SpelledRange}

-- a Rows frame is full at 1,000 rows, or once its body has 4,194,304 bytes or more
abbrev pub is_full : ℕ → List RowView → Bool
is_full range rows = nat_le 1000 (length rows) || nat_le 4_194_304 (length (body (frames.Rows range rows)))

-- the last Rows frame, where rows are left for one
abbrev pub last_rows : ℕ → List RowView → List Frame
last_rows range [] = []
last_rows range (row ∷ rows) = frames.Rows range (row ∷ rows) ∷ []

-- The Rows frames of a range from a frame on that has some rows so far: each row joins the frame, which is closed once it is
-- full.
abbrev pub rows_frames : ℕ → List RowView → List RowView → List Frame
rows_frames range so_far [] = last_rows range so_far
rows_frames range so_far (row ∷ rows) =
    if is_full range (so_far ++ row ∷ []) then frames.Rows range (so_far ++ row ∷ []) ∷ rows_frames range [] rows
    else rows_frames range (so_far ++ row ∷ []) rows

-- a Whole frame, unless the range is a copy that is not whole
abbrev pub whole_frames : SpelledRange → List Frame
whole_frames one = if one.is_whole then frames.Whole one.range one.next_tick ∷ [] else []

-- the frames of one range
abbrev pub range_frames : SpelledRange → List Frame
range_frames one = frames.Begin one.range one.span one.next_tick ∷ (rows_frames one.range [] one.rows ++ whole_frames one)

-- the frames of all ranges, one range after another
abbrev pub checkpoint_frames : List SpelledRange → List Frame
checkpoint_frames ranges = flat_map range_frames ranges

-- a range as a server holds it: its rows rise and lie in its span
pub record IsHeld (one : SpelledRange) : Type 0 where
  pub rising : AreRising one.rows
  pub inside : list_all (λ row. has one.span row.key) one.rows ≡ true

-- ranges as a server holds them, by rising number
pub record AreHeld (ranges : List SpelledRange) : Type 0 where
  pub apart : AllPairs (λ a b. a < b) (map (λ one. one.range) ranges)
  pub each : AllByRecursion IsHeld ranges

-- the frames of a checkpoint of these ranges
pub record IsCheckpoint (frames : List Frame) (ranges : List SpelledRange) : Type 0 where
  pub held : AreHeld ranges
  pub are : frames ≡ checkpoint_frames ranges
  pub spelled : AllByRecursion HasSpelling frames
