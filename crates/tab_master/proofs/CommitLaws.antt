-- A commit that a map may take: its frame goes on from whatever frames stand for the map.
use Rattle.std.proofs.Common.{◌≡◌, ◌≢◌, ℕ, ◌+◌, ◌-◌, ◌^◌, ◌<◌, List, [], ◌∷◌, ◌++◌, Bool, true, false, not, ◌&&◌, ◌==◌, ◌||◌, max, cond, map, length, Option, None, Some, refl, sym, ap, ◌∙◌, subst, arith, IsPermutation, length-append}
use Rattle.std.specs.Prelude.{All, AllPairs, IsTrue, nat_lt}
use Rattle.std.specs.Bool.{beq}
use Rattle.std.specs.List.{list_all, list_any, sum_by}
use Rattle.std.proofs.lemmas.Bool.{true≢false}
use Rattle.std.proofs.lemmas.List.{length-map}
use Rattle.std.proofs.lemmas.List.Elements.{All-head, All-tail, All-map, All-weaker}
use Rattle.std.proofs.lemmas.List.Filters.{sum_by-filter_both}
use Rattle.std.proofs.lemmas.List.Sums.{sum_by-append, sum_by-cons}
use Rattle.std.proofs.lemmas.List.Sorted.{IsPermutation-map, IsPermutation-sym, IsPermutation-trans, IsPermutation-append_left, All-permutation, length_permutation, sum_by-IsPermutation, list_any-IsPermutation}
use Rattle.tab_keys.specs.Order.{head_key, is_before}
use Rattle.tab_keys.specs.Spans.{has}
use Rattle.tab_keys.specs.declared.keys.Key.{Key}
use Rattle.tab_keys.specs.declared.bounds.Bound.{Bound}
use Rattle.tab_keys.specs.declared.bounds.Bound.TheVariants.{At, End}
use Rattle.tab_keys.proofs.OrderLaws.{is_before_first_bound, is_before_later}
use Rattle.tab_rows.proofs.Lists.{AllPairs-tail}
use Rattle.tab_codec.specs.declared.frames.RangeRow.{RangeRow}
use Rattle.tab_codec.specs.declared.frames.Frame.{Frame}
use Rattle.tab_journal.specs.Told.{MapTold, map_takes, map_after, takes_commit, has_number, is_listed, covers, agree_at, agree_in, rows_of, rows_besides, same_keys}
use Rattle.tab_journal.specs.Fitting.{Fits, takes}
use Rattle.tab_journal.specs.declared.fitting.Told.{Told}
use Rattle.tab_journal.specs.declared.fitting.Told.TheVariants as told
use Rattle.tab_journal.proofs.Fronts.{both_true}
use Rattle.tab_history.specs.Configurations.{MapRow}
use Rattle.tab_history.specs.Tilings.{AreTiles, TileKeys}
use Rattle.tab_master.specs.Ordered.{in_order}
use Rattle.tab_master.specs.Spelled.{SpelledMap, map_row, by_start, map_kind, map_told, next_plan_by}
use Rattle.tab_master.specs.MapListing.{map_after_all, map_listed}
use Rattle.tab_master.specs.Maps.{range_row, IsMapOver, MapStand, MapCommit, MayCommit, MapGoesOn, map_frame, map_stepped}
use Rattle.tab_master.proofs.OrderedLaws.{in_order-elements}
use Rattle.tab_master.proofs.Permutations.{IsPermutation-filter}
use Rattle.tab_master.proofs.MapListingLaws.{held_more, plan_more, told_by_map, spelled_is, told_stands}
use Rattle.tab_master.proofs.MapRowLaws.{as_frame_rows, as_map_rows, tiled_is}
use Rattle.tab_master.proofs.MapFits.{Apart, below_test, at_most_test, given_test, differ_test, absent_test, apart_moved, rows_given, rows_apart}

-- ---- how many rows have a key: in rows that tile the keys it is one

-- one where the row has the key
times_in : Key → RangeRow → ℕ
times_in key row = cond (has row.span key) 1 0

times : Key → List RangeRow → ℕ
times key rows = sum_by (times_in key) rows

no_times : (key : Key) → times key [] ≡ 0
unfolding times
no_times key = refl

more_times : (key : Key) (row : RangeRow) (rows : List RangeRow) → times key (row ∷ rows) ≡ times_in key row + times key rows
unfolding times
more_times key row rows = sum_by-cons (times_in key) row rows

absent_here : (key : Key) (row : RangeRow) → has row.span key ≡ false → times_in key row ≡ 0
unfolding times_in
absent_here key row h = ap (λ (t : Bool). cond t 1 0) h

present_here : (key : Key) (row : RangeRow) → has row.span key ≡ true → times_in key row ≡ 1
unfolding times_in
present_here key row h = ap (λ (t : Bool). cond t 1 0) h

covered : (key : Key) (rows : List RangeRow) → covers rows key ≡ nat_lt 0 (times key rows)
covered key [] = ap (nat_lt 0) (sym (no_times key))
covered key (row ∷ rows) = by_test (covered key rows) (has row.span key) refl
  where
    by_test : covers rows key ≡ nat_lt 0 (times key rows) → (t : Bool) → has row.span key ≡ t → (t || covers rows key) ≡ nat_lt 0 (times key (row ∷ rows))
    by_test later true e = sym (below_test 0 (times key (row ∷ rows)) (omega (arith, more_times key row rows, present_here key row e)))
    by_test later false e =
        let same : times key rows ≡ times key (row ∷ rows) = omega (arith, more_times key row rows, absent_here key row e) in
        later ∙ ap (nat_lt 0) same

none_before : (lo : Bound) (rows : List RangeRow) (key : Key) → AreTiles lo (map map_row rows) → is_before key lo ≡ true → times key rows ≡ 0
none_before lo [] key tiles before = no_times key
none_before lo (row ∷ rows) key tiles before =
    let outside : has row.span key ≡ false = ap (λ (t : Bool). not t && is_before key row.span.hi) (ap (is_before key) tiles.0 ∙ before) in
    let later : times key rows ≡ 0 = none_before row.span.hi rows key tiles.2 (is_before_later key lo row.span.hi tiles.1 before) in
    omega (arith, more_times key row rows, absent_here key row outside, later)

one_behind : (lo : Bound) (rows : List RangeRow) (key : Key) → AreTiles lo (map map_row rows) → is_before key lo ≡ false → times key rows ≡ 1
one_behind lo [] key tiles behind = absurd (true≢false (sym (ap (is_before key) tiles) ∙ behind))
one_behind lo (row ∷ rows) key tiles behind = by_test (one_behind row.span.hi rows key tiles.2) (is_before key row.span.hi) refl
  where
    up_to : has row.span key ≡ is_before key row.span.hi
    up_to = ap (λ (t : Bool). not t && is_before key row.span.hi) (ap (is_before key) tiles.0 ∙ behind)

    by_test : (is_before key row.span.hi ≡ false → times key rows ≡ 1) → (t : Bool) → is_before key row.span.hi ≡ t → times key (row ∷ rows) ≡ 1
    by_test later true e = omega (arith, more_times key row rows, present_here key row (up_to ∙ e), none_before row.span.hi rows key tiles.2 e)
    by_test later false e = omega (arith, more_times key row rows, absent_here key row (up_to ∙ e), later e)

once : (rows : List RangeRow) (key : Key) → TileKeys (map map_row rows) → times key rows ≡ 1
once rows key tiles = one_behind (At 0 []) rows key tiles (is_before_first_bound key)

-- ---- rows that were put in have the keys of those that were taken out

beq_same : (a b : Bool) → a ≡ b → beq a b ≡ true
beq_same true true h = refl
beq_same false false h = refl
beq_same true false h = absurd (true≢false h)
beq_same false true h = absurd (true≢false (sym h))

none_begins : (rows : List RangeRow) → list_any (λ (row : RangeRow). false) rows ≡ false
none_begins [] = refl
none_begins (row ∷ rows) = none_begins rows

agree : (a b : List RangeRow) (bound : Bound) → ((key : Key) → covers a key ≡ covers b key) → agree_at a b bound ≡ true
agree a b (At table pk) same = beq_same (covers a (head_key table pk)) (covers b (head_key table pk)) (same (head_key table pk))
agree a b End same = beq_same _ _ (none_begins a ∙ sym (none_begins b))

all_agree : (a b rows : List RangeRow) → ((key : Key) → covers a key ≡ covers b key) → list_all (λ row. agree_in a b row.span) rows ≡ true
all_agree a b [] same = refl
all_agree a b (row ∷ rows) same = both_true _ _ (both_true _ _ (agree a b row.span.lo same) (agree a b row.span.hi same)) (all_agree a b rows same)

have_same_keys : (a b : List RangeRow) → ((key : Key) → covers a key ≡ covers b key) → same_keys a b ≡ true
unfolding same_keys
have_same_keys a b same = both_true _ _ (all_agree a b a same) (all_agree a b b same)

-- of rows that tile the keys some go and others come, and these tile the keys again
taken_and_put : (olds : List ℕ) (held news tiled after : List RangeRow) → IsPermutation held tiled → TileKeys (map map_row tiled) → IsPermutation (rows_besides olds held ++ news) after → TileKeys (map map_row after) → (key : Key)
    → covers (rows_of olds held) key ≡ covers news key
unfolding times times_in
taken_and_put olds held news tiled after moved tiles put behind key =
    let before : times key held ≡ 1 = sym (sum_by-IsPermutation (times_in key) held tiled moved) ∙ once tiled key tiles in
    let then : times key (rows_besides olds held ++ news) ≡ 1 = sym (sum_by-IsPermutation (times_in key) (rows_besides olds held ++ news) after put) ∙ once after key behind in
    let parted : times key (rows_of olds held) + times key (rows_besides olds held) ≡ times key held =
    sum_by-filter_both (λ (row : RangeRow). is_listed olds row.range) (λ row. not (is_listed olds row.range)) (λ row. refl) (times_in key) held in
    let joined : times key (rows_besides olds held ++ news) ≡ times key (rows_besides olds held) + times key news = sum_by-append (times_in key) (rows_besides olds held) news in
    let same : times key (rows_of olds held) ≡ times key news = omega (arith, before, then, parted, joined) in
    covered key (rows_of olds held) ∙ (ap (nat_lt 0) same ∙ sym (covered key news))

-- ---- what frames that stand for a map told

record IsToldBy (list : List Frame) (of : SpelledMap) (held : MapTold) : Type 0 where
  some : map_after_all None list ≡ Some held
  next_range : held.next_range ≡ of.next_range
  next_plan : next_plan_by 0 list ≡ of.next_plan
  moved : IsPermutation held.rows (map range_row of.rows)

same_some : {A : Type 0} (a b : A) → Some a ≡ Some b → a ≡ b
same_some a b same = cc

told_held : (list : List Frame) (of : SpelledMap) → MapStand list of → (held : MapTold) × IsToldBy list of held
told_held list of stand = by_held (map_after_all None list) refl
  where
    by_held : (o : Option MapTold) → map_after_all None list ≡ o → (held : MapTold) × IsToldBy list of held
    by_held None e =
        let nothing : None ≡ Some of = sym (spelled_is list ∙ ap (λ (o : Option MapTold). Rattle.std.specs.Prelude.option_map (map_told (next_plan_by 0 list)) o) e) ∙ stand in
        absurd cc
    by_held (Some held) e =
        let same : map_told (next_plan_by 0 list) held ≡ of =
        same_some (map_told (next_plan_by 0 list) held) of (sym (spelled_is list ∙ ap (λ (o : Option MapTold). Rattle.std.specs.Prelude.option_map (map_told (next_plan_by 0 list)) o) e) ∙ stand) in
        let ordered = IsPermutation-map range_row (map map_row held.rows) (in_order by_start (map map_row held.rows)) (in_order-elements by_start (map map_row held.rows)) in (
          held,
          record {
            some = e;
            next_range = ap (λ (t : SpelledMap). t.next_range) same;
            next_plan = ap (λ (t : SpelledMap). t.next_plan) same;
            moved = subst (λ (l : List MapRow). IsPermutation held.rows (map range_row l)) (ap (λ (t : SpelledMap). t.rows) same)
                (subst (λ (l : List RangeRow). IsPermutation l (map range_row (in_order by_start (map map_row held.rows)))) (as_frame_rows held.rows) ordered);
          },
        )

-- ---- the frame of a commit fits

all_test : {A : Type 0} (p : A → Bool) (xs : List A) → All (λ x. p x ≡ true) xs → list_all p xs ≡ true
all_test p [] h = refl
all_test p (x ∷ xs) h = both_true (p x) (list_all p xs) (All-head (λ y. p y ≡ true) x xs h) (all_test p xs (All-tail (λ y. p y ≡ true) x xs h))

all_behind : {A : Type 0} (P : A → Type 0) (xs ys : List A) → All P (xs ++ ys) → All P ys
all_behind P [] ys h = h
all_behind P (x ∷ xs) ys h = all_behind P xs ys (All-tail P x (xs ++ ys) h)

pairs_behind : {A : Type 0} (R : A → A → Type 0) (xs ys : List A) → AllPairs R (xs ++ ys) → AllPairs R ys
pairs_behind R [] ys h = h
pairs_behind R (x ∷ xs) ys h = pairs_behind R xs ys (AllPairs-tail R x (xs ++ ys) h)

-- a test of numbers finds a row in what frames told exactly where it finds it in the map
number_moved : (held tiled : List RangeRow) (range : ℕ) → IsPermutation held tiled → has_number held range ≡ has_number tiled range
number_moved held tiled range moved = list_any-IsPermutation (λ (row : RangeRow). row.range == range) held tiled moved

-- what a commit leaves of frames' rows, with the new ones, are the rows behind it
rows_behind : (list : List Frame) (of : SpelledMap) (held : MapTold) (step : MapCommit) → IsToldBy list of held → MayCommit of step → IsPermutation (rows_besides step.old_ranges held.rows ++ step.new_rows) (map range_row step.rows)
rows_behind list of held step is may =
    let besides = IsPermutation-filter (λ (row : RangeRow). not (is_listed step.old_ranges row.range)) held.rows (map range_row of.rows) is.moved in
    IsPermutation-trans (rows_besides step.old_ranges held.rows ++ step.new_rows) (rows_besides step.old_ranges (map range_row of.rows) ++ step.new_rows) (map range_row step.rows)
    (IsPermutation-append_left step.new_rows (rows_besides step.old_ranges held.rows) (rows_besides step.old_ranges (map range_row of.rows)) besides) may.moved

tiled_frames : (rows : List MapRow) → TileKeys rows → TileKeys (map map_row (map range_row rows))
tiled_frames rows tiles = subst TileKeys (sym (as_map_rows rows)) tiles

commit_takes : (servers : ℕ) (list : List Frame) (of : SpelledMap) (held : MapTold) (step : MapCommit) → IsMapOver servers of → IsToldBy list of held → MayCommit of step
    → takes_commit held step.plan step.next_range step.old_ranges step.new_rows ≡ true
commit_takes servers list of held step map_is is may =
    let left : List RangeRow = rows_besides step.old_ranges held.rows in
    let after : List RangeRow = map range_row step.rows in
    let put : IsPermutation (left ++ step.new_rows) after = rows_behind list of held step is may in
    let back : IsPermutation after (left ++ step.new_rows) = IsPermutation-sym (left ++ step.new_rows) after put in
    let not_below = may.not_below in
    let next = is.next_range in
    let few = may.few in
    let long : length after ≡ length (left ++ step.new_rows) = length_permutation (left ++ step.new_rows) after put in
    let same_long : length after ≡ length step.rows = length-map step.rows range_row in
    let given : All (λ (row : RangeRow). row.range < step.next_range) step.new_rows =
    all_behind (λ (row : RangeRow). row.range < step.next_range) left step.new_rows (All-permutation (λ (row : RangeRow). row.range < step.next_range) after (left ++ step.new_rows) back (rows_given step.next_range step.rows may.given)) in
    let apart : AllPairs Apart step.new_rows = pairs_behind Apart left step.new_rows (apart_moved after (left ++ step.new_rows) back (rows_apart step.rows may.differ)) in
    both_true _ _
    (both_true _ _
    (both_true _ _
    (both_true _ _
    (both_true _ _
    (both_true _ _ (below_test step.plan (2 ^ 64 - 1) may.numbered) (at_most_test held.next_range step.next_range (omega (arith, not_below, next))))
    (at_most_test (length left + length step.new_rows) 256 (omega (arith, few, long, same_long, length-append left step.new_rows))))
    (all_test (has_number held.rows) step.old_ranges
    (All-weaker (λ range. IsTrue (has_number (map range_row of.rows) range)) (λ range. has_number held.rows range ≡ true) (λ range there. number_moved held.rows (map range_row of.rows) range is.moved ∙ there) step.old_ranges may.listed)))
    (both_true _ _ (given_test step.next_range step.new_rows given) (differ_test step.new_rows apart)))
    (all_test (λ (row : RangeRow). not (has_number held.rows row.range)) step.new_rows
    (All-weaker (λ (new : RangeRow). All (λ (row : MapRow). row.range ≢ new.range) of.rows) (λ new. not (has_number held.rows new.range) ≡ true)
    (λ new fresh. ap not (number_moved held.rows (map range_row of.rows) new.range is.moved ∙ absent_test (map range_row of.rows) new.range (All-map (λ (row : RangeRow). row.range ≢ new.range) range_row of.rows fresh)))
    step.new_rows may.fresh)))
    (have_same_keys (rows_of step.old_ranges held.rows) step.new_rows
    (taken_and_put step.old_ranges held.rows step.new_rows (map range_row of.rows) after is.moved (tiled_frames of.rows map_is.tiles) put (tiled_frames step.rows may.tiles)))

commit_fits : (list : List Frame) (of : SpelledMap) (held : MapTold) (step : MapCommit) → IsToldBy list of held → takes_commit held step.plan step.next_range step.old_ranges step.new_rows ≡ true → Fits map_kind list (map_frame step)
unfolding takes map_takes
commit_fits list of held step is h = ap (λ (t : Told). takes t (map_frame step)) (told_by_map list ∙ ap (λ (o : Option MapTold). told.Map o) is.some) ∙ h

-- ---- and stands with them for the map behind it

behind : MapTold → MapCommit → MapTold
behind held step = record { next_range = step.next_range; rows = rows_besides step.old_ranges held.rows ++ step.new_rows }

held_behind : (list : List Frame) (of : SpelledMap) (held : MapTold) (step : MapCommit) → IsToldBy list of held → map_after_all None (list ++ map_frame step ∷ []) ≡ Some (behind held step)
unfolding map_after behind
held_behind list of held step is = held_more None list (map_frame step) ∙ ap (λ (o : Option MapTold). map_after o (map_frame step)) is.some

commit_stands : (list : List Frame) (of : SpelledMap) (held : MapTold) (step : MapCommit) → IsToldBy list of held → MayCommit of step → MapStand (list ++ map_frame step ∷ []) (map_stepped of step)
unfolding behind
commit_stands list of held step is may =
    let whole : List Frame = list ++ map_frame step ∷ [] in
    told_stands whole (map_listed whole) (behind held step) (map_stepped of step) refl (held_behind list of held step is)
    (plan_more 0 list (map_frame step) ∙ ap (λ (n : ℕ). max n (step.plan + 1)) is.next_plan)
    (refl, tiled_is (rows_besides step.old_ranges held.rows ++ step.new_rows) (map range_row step.rows) (rows_behind list of held step is may) (tiled_frames step.rows may.tiles) ∙ as_map_rows step.rows)

pub commit_goes_on : (servers : ℕ) (of : SpelledMap) (step : MapCommit) → IsMapOver servers of → MayCommit of step → MapGoesOn of step
commit_goes_on servers of step is may = record {
  fits = may;
  goes_on = λ list are stand.
      let told = told_held list of stand in
      (commit_fits list of told.0 step told.1 (commit_takes servers list of told.0 step is told.1 may), commit_stands list of told.0 step told.1 may);
}
