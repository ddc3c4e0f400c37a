-- The rows that a server's frames spell of a range lie in its keys, and it has the number that was asked for.
use Rattle.std.proofs.Common.{◌≡◌, ℕ, List, [], ◌∷◌, Bool, true, false, not, ◌&&◌, cond, Some, None, refl, subst, arith}
use Rattle.std.specs.Prelude.{◌==◌, Option, option_map, IsTrue}
use Rattle.std.specs.List.{list_all}
use Rattle.std.proofs.lemmas.Bool.Decides.{nat_tests}
use Rattle.std.proofs.lemmas.List.Elements.{All-nil, All-cons, All-head, All-tail}
use Rattle.tab_keys.specs.Spans.{Interval, has}
use Rattle.tab_keys.specs.declared.keys.Key.{Key}
use Rattle.tab_rows.specs.Rows.{RowView, with_row}
use Rattle.tab_rows.specs.declared.changes.Change.{Change}
use Rattle.tab_rows.specs.declared.changes.Change.TheVariants.{Put, Take}
use Rattle.tab_rows.proofs.RowLaws.{All-with_row, All-without_row}
use Rattle.tab_ops.specs.Changes.{changed, applied}
use Rattle.tab_range.specs.Ranges.{LieIn}
use Rattle.tab_codec.specs.declared.frames.Frame.{Frame}
use Rattle.tab_codec.specs.declared.frames.Frame.TheVariants as frames
use Rattle.tab_journal.specs.declared.ranges.RangeTold.{RangeTold}
use Rattle.tab_journal.specs.declared.fitting.Told.{Told}
use Rattle.tab_journal.specs.declared.fitting.Told.TheVariants as told
use Rattle.tab_journal.specs.Told.{begun, server_takes, server_after, takes_rows, takes_changes, is_behind, changed_key, keys_differ}
use Rattle.tab_journal.specs.Fitting.{takes, takes_all, after}
use Rattle.tab_journal.specs.Areas.{AreFrames}
use Rattle.tab_journal.proofs.Fronts.{and_true}
use Rattle.tab_server.specs.Replays.{SpelledRange, with_rows, more_rows, made_whole, with_changes, spelled_next, spelled_from, spelled_range}
use Rattle.tab_server.proofs.Copies.{Agree, agree_next}
use Rattle.tab_server.proofs.Checkpoints.{server_first}

-- ---- lists of rows

abbrev HasRow : Interval → RowView → Type 0
HasRow span row = IsTrue (has span row.key)

with_all : (span : Interval) (rows others : List RowView) → LieIn span rows → LieIn span others → LieIn span (with_rows rows others)
with_all span rows [] lie more = lie
with_all span rows (row ∷ others) lie more =
    with_all span (with_row rows row) others (All-with_row (HasRow span) rows row lie (All-head (HasRow span) row others more)) (All-tail (HasRow span) row others more)

changed_in : (span : Interval) (rows : List RowView) (change : Change) → LieIn span rows → has span (changed_key change) ≡ true → LieIn span (changed rows change)
changed_in span rows (Put row) lie here = All-with_row (HasRow span) rows row lie here
changed_in span rows (Take key) lie here = All-without_row (HasRow span) rows key lie

applied_in : (span : Interval) (rows : List RowView) (changes : List Change) → LieIn span rows → list_all (λ change. has span (changed_key change)) changes ≡ true → LieIn span (applied rows changes)
applied_in span rows [] lie inside = lie
applied_in span rows (change ∷ changes) lie inside =
    let both = and_true (has span (changed_key change)) (list_all (λ (other : Change). has span (changed_key other)) changes) inside in
    applied_in span (changed rows change) changes (changed_in span rows change lie both.0) both.1

rows_in : (span : Interval) (last : Option Key) (rows : List RowView) → list_all (λ row. has span row.key && is_behind last row.key) rows ≡ true → LieIn span rows
rows_in span last [] taken = All-nil (HasRow span)
rows_in span last (row ∷ rows) taken =
    let both = and_true (has span row.key && is_behind last row.key) (list_all (λ (other : RowView). has span other.key && is_behind last other.key) rows) taken in
    All-cons (HasRow span) row rows (and_true (has span row.key) (is_behind last row.key) both.0).0 (rows_in span last rows both.1)

-- ---- frame by frame

-- a range that was begun has its number, and its rows lie in its keys
abbrev IsInside : ℕ → Option SpelledRange → Type 0
IsInside number None = Unit {0}
IsInside number (Some one) = (one.range ≡ number) × LieIn one.span one.rows

inside_if : (number : ℕ) (b : Bool) (x y : Option SpelledRange) → (b ≡ true → IsInside number x) → IsInside number y → IsInside number (cond b x y)
inside_if number true x y here there = here refl
inside_if number false x y here there = there

same_from : (a b : ℕ) → (a == b) ≡ true → a ≡ b
same_from a b e = grind (arith, nat_tests)

rows_inside : (number : ℕ) (o : Option RangeTold) (so_far : Option SpelledRange) (rows : List RowView) → Agree o so_far → IsInside number so_far → takes_rows o rows ≡ true → IsInside number (option_map (more_rows rows) so_far)
rows_inside number o None rows agree inside taken = tt
rows_inside number None (Some one) rows agree inside taken = elim agree [ ]
rows_inside number (Some told) (Some one) rows agree inside taken =
    let both = and_true (not told.is_whole) (list_all (λ (row : RowView). has told.span row.key && is_behind told.last row.key) rows) taken in
    (inside.0, with_all one.span one.rows rows inside.1 (subst (λ (s : Interval). LieIn s rows) agree.0 (rows_in told.span told.last rows both.1)))

changes_inside : (number next_tick : ℕ) (o : Option RangeTold) (so_far : Option SpelledRange) (changes : List Change) → Agree o so_far → IsInside number so_far → takes_changes o changes ≡ true
    → IsInside number (option_map (with_changes changes next_tick) so_far)
changes_inside number next_tick o None changes agree inside taken = tt
changes_inside number next_tick None (Some one) changes agree inside taken = elim agree [ ]
changes_inside number next_tick (Some told) (Some one) changes agree inside taken =
    let first = and_true (told.is_whole && list_all (λ (change : Change). has told.span (changed_key change)) changes) (keys_differ changes) taken in
    let second = and_true told.is_whole (list_all (λ (change : Change). has told.span (changed_key change)) changes) first.0 in
    (inside.0, applied_in one.span one.rows changes inside.1 (subst (λ (s : Interval). list_all (λ (change : Change). has s (changed_key change)) changes ≡ true) agree.0 second.1))

whole_inside : (number next_tick : ℕ) (so_far : Option SpelledRange) → IsInside number so_far → IsInside number (option_map (made_whole next_tick) so_far)
whole_inside number next_tick None inside = tt
whole_inside number next_tick (Some one) inside = inside

inside_next : (number : ℕ) (ranges : List RangeTold) (so_far : Option SpelledRange) (frame : Frame) → Agree (begun ranges number) so_far → IsInside number so_far → server_takes ranges frame ≡ true
    → IsInside number (spelled_next number so_far frame)
unfolding server_takes
inside_next number ranges so_far (frames.Begin range span next_tick) agree inside taken =
    inside_if number (range == number) (Some (record { range = range; span = span; rows = []; next_tick = next_tick; is_whole = false })) so_far (λ e. (same_from range number e, All-nil (HasRow span))) inside
inside_next number ranges so_far (frames.Rows range rows) agree inside taken =
    inside_if number (range == number) (option_map (more_rows rows) so_far) so_far
    (λ e. rows_inside number (begun ranges number) so_far rows agree inside (subst (λ (n : ℕ). takes_rows (begun ranges n) rows ≡ true) (same_from range number e) taken)) inside
inside_next number ranges so_far (frames.Whole range next_tick) agree inside taken =
    inside_if number (range == number) (option_map (made_whole next_tick) so_far) so_far (λ e. whole_inside number next_tick so_far inside) inside
inside_next number ranges so_far (frames.Change range next_tick changes) agree inside taken =
    inside_if number (range == number) (option_map (with_changes changes next_tick) so_far) so_far
    (λ e. changes_inside number next_tick (begun ranges number) so_far changes agree inside (subst (λ (n : ℕ). takes_changes (begun ranges n) changes ≡ true) (same_from range number e) taken)) inside
inside_next number ranges so_far (frames.Map next_range next_plan rows) agree inside taken = inside
inside_next number ranges so_far (frames.Commit plan next_range old_ranges new_rows) agree inside taken = inside
inside_next number ranges so_far (frames.Names next_table names) agree inside taken = inside
inside_next number ranges so_far (frames.Create table name) agree inside taken = inside
inside_next number ranges so_far (frames.Drop table) agree inside taken = inside

-- ---- over all frames

inside_after : (number : ℕ) (ranges : List RangeTold) (so_far : Option SpelledRange) (frames : List Frame) → Agree (begun ranges number) so_far → IsInside number so_far → takes_all (told.Server ranges) frames ≡ true
    → IsInside number (spelled_from number so_far frames)
unfolding takes_all takes after
inside_after number ranges so_far [] agree inside fit = inside
inside_after number ranges so_far (frame ∷ frames) agree inside fit =
    let both = and_true (server_takes ranges frame) (takes_all (told.Server (server_after ranges frame)) frames) fit in
    inside_after number (server_after ranges frame) (spelled_next number so_far frame) frames (agree_next number ranges so_far frame agree) (inside_next number ranges so_far frame agree inside both.0) both.1

all_inside : (frames : List Frame) (number : ℕ) → AreFrames 2 frames → IsInside number (spelled_range frames number)
all_inside frames number are = inside_after number [] None frames tt tt (subst (λ (t : Told). takes_all t frames ≡ true) server_first are.fit)

pub spelled_number : (frames : List Frame) (number : ℕ) (one : SpelledRange) → AreFrames 2 frames → spelled_range frames number ≡ Some one → one.range ≡ number
spelled_number frames number one are is = (subst (IsInside number) is (all_inside frames number are)).0

pub spelled_inside : (frames : List Frame) (number : ℕ) (one : SpelledRange) → AreFrames 2 frames → spelled_range frames number ≡ Some one → LieIn one.span one.rows
spelled_inside frames number one are is = (subst (IsInside number) is (all_inside frames number are)).1
