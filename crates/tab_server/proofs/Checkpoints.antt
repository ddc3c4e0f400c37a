-- The frames of a checkpoint fit one behind another, and are frames of a server's store.
use Rattle.std.proofs.Common.{◌≡◌, ℕ, List, [], ◌∷◌, ◌++◌, Bool, true, false, not, ◌&&◌, cond, Some, None, refl, sym, ap, subst, ◌∙◌, append_assoc, map, arith}
use Rattle.std.specs.Prelude.{◌==◌, Option, option_map, All, IsTrue}
use Rattle.std.specs.List.{AllByRecursion, list_all, last_or}
use Rattle.std.proofs.lemmas.Bool.Decides.{nat_tests}
use Rattle.std.proofs.lemmas.List.{append-nil}
use Rattle.std.proofs.lemmas.List.Concat.{flat_map-cons}
use Rattle.std.proofs.lemmas.List.Elements.{All-head, All-tail}
use Rattle.std.proofs.lemmas.List.Folds.{list_all-append}
use Rattle.tab_keys.specs.Order.{key_lt}
use Rattle.tab_keys.specs.Spans.{Interval, has}
use Rattle.tab_keys.specs.declared.keys.Key.{Key}
use Rattle.tab_rows.specs.Rows.{RowView, AreRising}
use Rattle.tab_rows.proofs.Lists.{AllPairs-head, AllPairs-tail, All-split}
use Rattle.tab_codec.specs.declared.frames.Frame.{Frame}
use Rattle.tab_codec.specs.declared.frames.Frame.TheVariants as frames
use Rattle.tab_codec.proofs.KeyLaws.{both_true}
use Rattle.tab_page.proofs.RisingLists.{AllPairs-front}
use Rattle.tab_journal.specs.declared.ranges.RangeTold.{RangeTold}
use Rattle.tab_journal.specs.declared.fitting.Told.TheVariants as told
use Rattle.tab_journal.specs.Told.{begun, server_after, server_takes, takes_rows, is_behind, is_some_range}
use Rattle.tab_journal.specs.Fitting.{takes, after, takes_all, told_first, told_by, is_whole_store}
use Rattle.tab_journal.specs.Areas.{AreFrames}
use Rattle.tab_server.specs.Replays.{SpelledRange, spelled_from, SpellsEach}
use Rattle.tab_server.specs.Rewriting.{is_full, last_rows, rows_frames, whole_frames, range_frames, checkpoint_frames, IsHeld, IsCheckpoint}
use Rattle.tab_server.specs.Contents.{IsServerCheckpoint}
use Rattle.tab_server.proofs.Replaying.{rows_spelled, checkpoint_spelled}
use Rattle.tab_server.proofs.Copies.{begun_at, begun_anew, Agree, agree_after, told_after, told_by_server}

-- ---- frames behind others

both : (a b : Bool) → a ≡ true → b ≡ true → (a && b) ≡ true
both true true e f = refl
both true false e f = f
both false b e f = e

pub fits_first : (ranges : List RangeTold) (frame : Frame) (frames : List Frame) → server_takes ranges frame ≡ true → takes_all (told.Server (server_after ranges frame)) frames ≡ true
    → takes_all (told.Server ranges) (frame ∷ frames) ≡ true
unfolding takes_all takes after
fits_first ranges frame frames first rest = both (server_takes ranges frame) (takes_all (told.Server (server_after ranges frame)) frames) first rest

fits_parts : (ranges : List RangeTold) (frame : Frame) (frames : List Frame) → takes_all (told.Server ranges) (frame ∷ frames) ≡ true
    → (server_takes ranges frame ≡ true) × (takes_all (told.Server (server_after ranges frame)) frames ≡ true)
unfolding takes_all takes after
fits_parts ranges frame frames h = both_true (server_takes ranges frame) (takes_all (told.Server (server_after ranges frame)) frames) h

fits_none : (ranges : List RangeTold) → takes_all (told.Server ranges) [] ≡ true
unfolding takes_all
fits_none ranges = refl

pub fits_behind : (ranges : List RangeTold) (xs ys : List Frame) → takes_all (told.Server ranges) xs ≡ true → takes_all (told.Server (told_after ranges xs)) ys ≡ true → takes_all (told.Server ranges) (xs ++ ys) ≡ true
unfolding told_after
fits_behind ranges [] ys h k = k
fits_behind ranges (x ∷ xs) ys h k =
    let parts = fits_parts ranges x xs h in
    fits_first ranges x (xs ++ ys) parts.0 (fits_behind (server_after ranges x) xs ys parts.1 k)

-- ---- rows behind a key

pub from_all : {X : Type 0} (p : X → Bool) (xs : List X) → All (λ x. IsTrue (p x)) xs → list_all p xs ≡ true
from_all p [] h = refl
from_all p (x ∷ xs) h = both (p x) (list_all p xs) (All-head (λ x. IsTrue (p x)) x xs h) (from_all p xs (All-tail (λ x. IsTrue (p x)) x xs h))

together : {X : Type 0} (p q : X → Bool) (xs : List X) → list_all p xs ≡ true → list_all q xs ≡ true → list_all (λ x. p x && q x) xs ≡ true
together p q [] h k = refl
together p q (x ∷ xs) h k =
    let a = both_true (p x) (list_all p xs) h in
    let b = both_true (q x) (list_all q xs) k in
    both (p x && q x) (list_all (λ x. p x && q x) xs) (both (p x) (q x) a.0 b.0) (together p q xs a.1 b.1)

halves : {X : Type 0} (p : X → Bool) (xs ys : List X) → list_all p (xs ++ ys) ≡ true → (list_all p xs ≡ true) × (list_all p ys ≡ true)
halves p xs ys h = both_true (list_all p xs) (list_all p ys) (sym (list_all-append p xs ys) ∙ h)

abbrev AreBehind : Option Key → List RowView → Type 0
AreBehind last rows = list_all (λ (row : RowView). is_behind last row.key) rows ≡ true

abbrev AreIn : Interval → List RowView → Type 0
AreIn span rows = list_all (λ (row : RowView). has span row.key) rows ≡ true

abbrev last_key : Option Key → List RowView → Option Key
last_key last rows = last_or last (map (λ row. row.key) rows)

behind_last : (last : Option Key) (xs ys : List RowView) → AreRising (xs ++ ys) → AreBehind last ys → AreBehind (last_key last xs) ys
behind_last last [] ys rising h = h
behind_last last (x ∷ xs) ys rising h =
    behind_last (Some x.key) xs ys (AllPairs-tail (λ a b. IsTrue (key_lt a.key b.key)) x (xs ++ ys) rising)
    (from_all (λ (row : RowView). key_lt x.key row.key) ys (All-split (λ row. IsTrue (key_lt x.key row.key)) xs ys (AllPairs-head (λ a b. IsTrue (key_lt a.key b.key)) x (xs ++ ys) rising)))

pub back_rises : (xs ys : List RowView) → AreRising (xs ++ ys) → AreRising ys
back_rises [] ys rising = rising
back_rises (x ∷ xs) ys rising = back_rises xs ys (AllPairs-tail (λ a b. IsTrue (key_lt a.key b.key)) x (xs ++ ys) rising)

-- ---- the frames of one range

-- a copy that takes these rows
record Takes (ranges : List RangeTold) (range : ℕ) (rows : List RowView) : Type 0 where
  one : RangeTold
  found : begun ranges range ≡ Some one
  still : one.is_whole ≡ false
  inside : AreIn one.span rows
  behind : AreBehind one.last rows
  rising : AreRising rows

row_frame_fits : (ranges : List RangeTold) (range : ℕ) (rows : List RowView) → Takes ranges range rows → server_takes ranges (frames.Rows range rows) ≡ true
unfolding server_takes
row_frame_fits ranges range rows t =
    ap (λ (o : Option RangeTold). takes_rows o rows) t.found
    ∙ both (not t.one.is_whole) (list_all (λ row. has t.one.span row.key && is_behind t.one.last row.key) rows) (ap not t.still)
    (together (λ (row : RowView). has t.one.span row.key) (λ (row : RowView). is_behind t.one.last row.key) rows t.inside t.behind)

first_part : (ranges : List RangeTold) (range : ℕ) (xs ys : List RowView) → Takes ranges range (xs ++ ys) → Takes ranges range xs
first_part ranges range xs ys t = record {
  one = t.one;
  found = t.found;
  still = t.still;
  inside = (halves (λ (row : RowView). has t.one.span row.key) xs ys t.inside).0;
  behind = (halves (λ (row : RowView). is_behind t.one.last row.key) xs ys t.behind).0;
  rising = AllPairs-front (λ a b. IsTrue (key_lt a.key b.key)) xs ys t.rising;
}

-- after a frame of the first rows the copy takes the others
second_part : (ranges : List RangeTold) (range : ℕ) (xs ys : List RowView) → Takes ranges range (xs ++ ys) → Takes (server_after ranges (frames.Rows range xs)) range ys
unfolding server_after
second_part ranges range xs ys t =
    let f : RangeTold → RangeTold = λ one. record one { last = last_key one.last xs } in
    let same : (range == range) ≡ true = grind (arith, nat_tests) in
    record {
      one = f t.one;
      found = begun_at range range f (λ one. refl) ranges ∙ ap (λ (b : Bool). cond b (option_map f (begun ranges range)) (begun ranges range)) same ∙ ap (option_map f) t.found;
      still = t.still;
      inside = (halves (λ (row : RowView). has t.one.span row.key) xs ys t.inside).1;
      behind = behind_last t.one.last xs ys t.rising (halves (λ (row : RowView). is_behind t.one.last row.key) xs ys t.behind).1;
      rising = back_rises xs ys t.rising;
    }

abbrev FrameFits : List RangeTold → ℕ → List RowView → List RowView → Type 0
FrameFits ranges range so_far rows = takes_all (told.Server ranges) (rows_frames range so_far rows) ≡ true

last_fits : (ranges : List RangeTold) (range : ℕ) (rows : List RowView) → Takes ranges range rows → takes_all (told.Server ranges) (last_rows range rows) ≡ true
last_fits ranges range [] t = fits_none ranges
last_fits ranges range (row ∷ rows) t = fits_first ranges (frames.Rows range (row ∷ rows)) [] (row_frame_fits ranges range (row ∷ rows) t) (fits_none (server_after ranges (frames.Rows range (row ∷ rows))))

longer : (so_far : List RowView) (row : RowView) (rows : List RowView) → (so_far ++ row ∷ []) ++ rows ≡ so_far ++ row ∷ rows
longer so_far row rows = append_assoc so_far (row ∷ []) rows

one_more : (ranges : List RangeTold) (range : ℕ) (so_far : List RowView) (row : RowView) (rows : List RowView) (b : Bool) → is_full range (so_far ++ row ∷ []) ≡ b → Takes ranges range (so_far ++ row ∷ rows)
    → (Takes (server_after ranges (frames.Rows range (so_far ++ row ∷ []))) range rows → FrameFits (server_after ranges (frames.Rows range (so_far ++ row ∷ []))) range [] rows)
    → (Takes ranges range ((so_far ++ row ∷ []) ++ rows) → FrameFits ranges range (so_far ++ row ∷ []) rows) → FrameFits ranges range so_far (row ∷ rows)
one_more ranges range so_far row rows true full t anew further =
    let parts : Takes ranges range ((so_far ++ row ∷ []) ++ rows) = subst (Takes ranges range) (sym (longer so_far row rows)) t in
    rw full
    (fits_first ranges (frames.Rows range (so_far ++ row ∷ [])) (rows_frames range [] rows) (row_frame_fits ranges range (so_far ++ row ∷ []) (first_part ranges range (so_far ++ row ∷ []) rows parts))
    (anew (second_part ranges range (so_far ++ row ∷ []) rows parts)))
one_more ranges range so_far row rows false room t anew further = rw room (further (subst (Takes ranges range) (sym (longer so_far row rows)) t))

rows_fit : (ranges : List RangeTold) (range : ℕ) (so_far rows : List RowView) → Takes ranges range (so_far ++ rows) → FrameFits ranges range so_far rows
rows_fit ranges range so_far [] t = last_fits ranges range so_far (subst (Takes ranges range) (append-nil so_far) t)
rows_fit ranges range so_far (row ∷ rows) t =
    one_more ranges range so_far row rows (is_full range (so_far ++ row ∷ [])) refl t (rows_fit (server_after ranges (frames.Rows range (so_far ++ row ∷ []))) range [] rows)
    (rows_fit ranges range (so_far ++ row ∷ []) rows)

-- a range that is spelled was begun
was_begun : (o : Option RangeTold) (p : Option SpelledRange) (one : SpelledRange) → Agree o p → p ≡ Some one → is_some_range o ≡ true
was_begun (Some told) p one h e = refl
was_begun None None one h e = absurd cc
was_begun None (Some other) one h e = elim h [ ]

whole_taken : (ranges : List RangeTold) (one : SpelledRange) → is_some_range (begun ranges one.range) ≡ true → server_takes ranges (frames.Whole one.range one.next_tick) ≡ true
unfolding server_takes
whole_taken ranges one is = is

whole_by : (ranges : List RangeTold) (one : SpelledRange) → is_some_range (begun ranges one.range) ≡ true → (b : Bool) → one.is_whole ≡ b → takes_all (told.Server ranges) (whole_frames one) ≡ true
whole_by ranges one is true w = rw w (fits_first ranges (frames.Whole one.range one.next_tick) [] (whole_taken ranges one is) (fits_none (server_after ranges (frames.Whole one.range one.next_tick))))
whole_by ranges one is false w = rw w (fits_none ranges)

whole_fits : (ranges : List RangeTold) (one : SpelledRange) → is_some_range (begun ranges one.range) ≡ true → takes_all (told.Server ranges) (whole_frames one) ≡ true
whole_fits ranges one is = whole_by ranges one is one.is_whole refl

begin_taken : (ranges : List RangeTold) (range : ℕ) (span : Interval) (next_tick : ℕ) → server_takes ranges (frames.Begin range span next_tick) ≡ true
unfolding server_takes
begin_taken ranges range span next_tick = refl

begin_leaves : (ranges : List RangeTold) (range : ℕ) (span : Interval) (next_tick : ℕ)
    → begun (server_after ranges (frames.Begin range span next_tick)) range ≡ Some (record { range = range; span = span; last = None; is_whole = false })
unfolding server_after
begin_leaves ranges range span next_tick =
    let new : RangeTold = record { range = range; span = span; last = None; is_whole = false } in
    let same : (range == range) ≡ true = grind (arith, nat_tests) in
    begun_anew range range new refl ranges ∙ ap (λ (b : Bool). cond b (Some new) (begun ranges range)) same

all_behind_none : (rows : List RowView) → AreBehind None rows
all_behind_none [] = refl
all_behind_none (row ∷ rows) = all_behind_none rows

range_fits : (ranges : List RangeTold) (one : SpelledRange) → IsHeld one → takes_all (told.Server ranges) (range_frames one) ≡ true
range_fits ranges one held =
    let begins : List RangeTold = server_after ranges (frames.Begin one.range one.span one.next_tick) in
    let same : (one.range == one.range) ≡ true = grind (arith, nat_tests) in
    let new : RangeTold = record { range = one.range; span = one.span; last = None; is_whole = false } in
    let empty : SpelledRange = record { range = one.range; span = one.span; rows = []; next_tick = one.next_tick; is_whole = false } in
    let found : begun begins one.range ≡ Some new = begin_leaves ranges one.range one.span one.next_tick in
    let takes_rows : Takes begins one.range one.rows = record { one = new; found = found; still = refl; inside = held.inside; behind = all_behind_none one.rows; rising = held.rising } in
    let agree : Agree (begun (told_after begins (rows_frames one.range [] one.rows)) one.range) (spelled_from one.range (Some empty) (rows_frames one.range [] one.rows)) =
    agree_after one.range begins (Some empty) (rows_frames one.range [] one.rows) (subst (λ (o : Option RangeTold). Agree o (Some empty)) (sym found) (refl, refl)) in
    fits_first ranges (frames.Begin one.range one.span one.next_tick) (rows_frames one.range [] one.rows ++ whole_frames one) (begin_taken ranges one.range one.span one.next_tick)
    (fits_behind begins (rows_frames one.range [] one.rows) (whole_frames one) (rows_fit begins one.range [] one.rows takes_rows)
    (whole_fits (told_after begins (rows_frames one.range [] one.rows)) one
    (was_begun _ _ (record empty { rows = one.rows }) agree (rows_spelled one.range one.range empty [] one.rows same held.rising))))

-- ---- all ranges

all_fit : (ranges : List RangeTold) (held : List SpelledRange) → AllByRecursion IsHeld held → takes_all (told.Server ranges) (checkpoint_frames held) ≡ true
all_fit ranges [] each = fits_none ranges
all_fit ranges (one ∷ held) each =
    subst (λ (xs : List Frame). takes_all (told.Server ranges) xs ≡ true) (sym (flat_map-cons range_frames one held))
    (fits_behind ranges (range_frames one) (checkpoint_frames held) (range_fits ranges one each.0) (all_fit (told_after ranges (range_frames one)) held each.1))

pub server_first : told_first 2 ≡ told.Server []
unfolding told_first
server_first = refl

whole_server : (frames : List Frame) → is_whole_store (told_by 2 frames) ≡ true
unfolding is_whole_store
whole_server frames = subst (λ told. is_whole_store told ≡ true) (sym (told_by_server frames)) refl

pub checks_out : (frames : List Frame) (held : List SpelledRange) → IsCheckpoint frames held → AreFrames 2 frames × SpellsEach frames held
checks_out frames held check =
    let fit : takes_all (told_first 2) frames ≡ true =
    subst (λ (xs : List Frame). takes_all (told_first 2) xs ≡ true) (sym check.are) (subst (λ first. takes_all first (checkpoint_frames held) ≡ true) (sym server_first) (all_fit [] held check.held.each)) in (
      record { spelled = check.spelled; fit = fit; whole = whole_server frames },
      subst (λ (xs : List Frame). SpellsEach xs held) (sym check.are) (checkpoint_spelled held check.held.apart check.held.each),
    )

pub server_checkpoint : (frames : List Frame) (held : List SpelledRange) → IsCheckpoint frames held → IsServerCheckpoint frames held
server_checkpoint frames held check = let out = checks_out frames held check in record { checkpoint = check; are = out.0; stand = out.1 }
