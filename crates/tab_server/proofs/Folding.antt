-- What is left of a list, one item at a time.
use Rattle.std.proofs.Common.{◌≡◌, ℕ, ◌+◌, ◌<◌, List, length, get_or, drop, sym, ap, ◌∙◌}
use Rattle.std.specs.Prelude.{Option}
use Rattle.std.proofs.lemmas.List.{at_drop_more}
use Rattle.tab_rows.specs.Rows.{RowView, with_row}
use Rattle.tab_rows.specs.declared.changes.Change.{Change}
use Rattle.tab_ops.specs.Changes.{changed, applied}
use Rattle.tab_codec.specs.declared.frames.Frame.{Frame}
use Rattle.tab_server.specs.Replays.{SpelledRange, with_rows, spelled_next, spelled_from}

pub rows_step : (rows xs : List RowView) (i : ℕ) (row : RowView) → i < length xs → row ≡ get_or xs i row → with_rows rows (drop i xs) ≡ with_rows (with_row rows row) (drop (i + 1) xs)
rows_step rows xs i row within is = at_drop_more (with_rows rows) xs i row within ∙ ap (λ (x : RowView). with_rows (with_row rows x) (drop (i + 1) xs)) (sym is)

pub changes_step : (rows : List RowView) (xs : List Change) (i : ℕ) (x : Change) → i < length xs → x ≡ get_or xs i x → applied rows (drop i xs) ≡ applied (changed rows x) (drop (i + 1) xs)
changes_step rows xs i x within is = at_drop_more (applied rows) xs i x within ∙ ap (λ (y : Change). applied (changed rows y) (drop (i + 1) xs)) (sym is)

pub frames_step : (number : ℕ) (so_far : Option SpelledRange) (xs : List Frame) (i : ℕ) (x : Frame) → i < length xs → x ≡ get_or xs i x
    → spelled_from number so_far (drop i xs) ≡ spelled_from number (spelled_next number so_far x) (drop (i + 1) xs)
frames_step number so_far xs i x within is =
    at_drop_more (spelled_from number so_far) xs i x within ∙ ap (λ (y : Frame). spelled_from number (spelled_next number so_far y) (drop (i + 1) xs)) (sym is)
