-- What the frames of a map keep of its rows and numbers, and that a checkpoint's frame stands for it.
use Rattle.std.proofs.Common.{◌≡◌, ◌≢◌, ℕ, ◌+◌, ◌-◌, ◌^◌, ◌<◌, ◌≤◌, List, [], ◌∷◌, ◌++◌, Bool, true, false, not, ◌==◌, ◌||◌, map, length, Option, None, Some, refl, sym, ap, ◌∙◌, subst, arith, IsPermutation, length-append}
use Rattle.std.specs.Prelude.{All, AllPairs, nat_lt, nat_le}
use Rattle.std.specs.List.{list_all, AllByRecursion}
use Rattle.std.proofs.lemmas.Bool.{true≢false, ne_eqb, eqb-false}
use Rattle.std.proofs.lemmas.Bool.Decides.{nat_tests}
use Rattle.std.proofs.lemmas.List.{length-map}
use Rattle.std.proofs.lemmas.List.Elements.{All-nil, All-cons, All-head, All-tail, All-map, All-append, All-filter, All-weaker}
use Rattle.std.proofs.lemmas.List.Kept.{AllPairs-cons, AllPairs-filter}
use Rattle.std.proofs.lemmas.List.Sorted.{IsPermutation-refl, All-permutation, length_permutation}
use Rattle.std.proofs.lemmas.Map.Keys.{IsDistinct-from_apart, IsDistinct-IsPermutation, apart_from_distinct}
use Rattle.tab_keys.specs.declared.bounds.Bound.TheVariants.{At}
use Rattle.tab_rows.proofs.Lists.{AllPairs-head, AllPairs-tail, AllPairs-append}
use Rattle.tab_page.proofs.RisingLists.{AllPairs-nil}
use Rattle.tab_codec.specs.declared.frames.RangeRow.{RangeRow}
use Rattle.tab_codec.specs.declared.frames.Frame.{Frame}
use Rattle.tab_codec.specs.declared.frames.Frame.TheVariants as frames
use Rattle.tab_codec.specs.Frames.{HasSpelling}
use Rattle.tab_journal.specs.Told.{MapTold, map_takes, map_after, takes_commit, are_numbers, numbers_differ, has_number, is_listed, rows_besides, most_rows}
use Rattle.tab_journal.specs.Areas.{AreFrames}
use Rattle.tab_journal.specs.Fitting.{told_by, takes, takes_all, after, is_whole_store}
use Rattle.tab_journal.specs.declared.fitting.Told.{Told}
use Rattle.tab_journal.specs.declared.fitting.Told.TheVariants as told
use Rattle.tab_journal.proofs.Fronts.{and_true, both_true}
use Rattle.tab_history.specs.Configurations.{MapRow}
use Rattle.tab_history.specs.Ranges.{HaveOwnRanges}
use Rattle.tab_master.specs.Ordered.{in_order}
use Rattle.tab_master.specs.Spelled.{SpelledMap, map_row, by_start, map_kind, map_told, map_of, next_plan_after, next_plan_by, spelled_map}
use Rattle.tab_master.specs.MapListing.{MapListed, map_after_all, map_listed}
use Rattle.tab_master.specs.Maps.{range_row, IsMapOver, IsMapCheckpoint, AreInYard}
use Rattle.tab_master.proofs.OrderedLaws.{in_order_rising}
use Rattle.tab_master.proofs.MapListingLaws.{first_is_map, told_by_map}
use Rattle.tab_master.proofs.MapRowLaws.{by_start_total, tiles_rise, as_map_rows}

-- ---- numbers of rows, by tests and as they are

below_from : (a b : ℕ) → nat_lt a b ≡ true → a < b
below_from a b h = grind (arith, nat_tests)

pub below_test : (a b : ℕ) → a < b → nat_lt a b ≡ true
below_test a b h = grind (arith, nat_tests)

at_most_from : (a b : ℕ) → nat_le a b ≡ true → a ≤ b
at_most_from a b h = grind (arith, nat_tests)

pub at_most_test : (a b : ℕ) → a ≤ b → nat_le a b ≡ true
at_most_test a b h = grind (arith, nat_tests)

not_true : (b : Bool) → not b ≡ true → b ≡ false
not_true true h = absurd (true≢false (sym h))
not_true false h = refl

or_false : (a b : Bool) → (a || b) ≡ false → (a ≡ false) × (b ≡ false)
or_false true b h = absurd (true≢false h)
or_false false b h = (refl, h)

given_from : (next : ℕ) (rows : List RangeRow) → list_all (λ row. nat_lt row.range next) rows ≡ true → All (λ row. row.range < next) rows
given_from next [] h = All-nil (λ (row : RangeRow). row.range < next)
given_from next (row ∷ rows) h =
    let parts = and_true (nat_lt row.range next) (list_all (λ one. nat_lt one.range next) rows) h in
    All-cons (λ (one : RangeRow). one.range < next) row rows (below_from row.range next parts.0) (given_from next rows parts.1)

pub given_test : (next : ℕ) (rows : List RangeRow) → All (λ row. row.range < next) rows → list_all (λ row. nat_lt row.range next) rows ≡ true
given_test next [] h = refl
given_test next (row ∷ rows) h =
    both_true (nat_lt row.range next) (list_all (λ one. nat_lt one.range next) rows) (below_test row.range next (All-head (λ (one : RangeRow). one.range < next) row rows h))
    (given_test next rows (All-tail (λ (one : RangeRow). one.range < next) row rows h))

-- no row has the number
absent_from : (rows : List RangeRow) (range : ℕ) → has_number rows range ≡ false → All (λ row. row.range ≢ range) rows
absent_from [] range h = All-nil (λ (row : RangeRow). row.range ≢ range)
absent_from (row ∷ rows) range h =
    let parts = or_false (row.range == range) (has_number rows range) h in
    All-cons (λ (one : RangeRow). one.range ≢ range) row rows (eqb-false row.range range parts.0) (absent_from rows range parts.1)

pub absent_test : (rows : List RangeRow) (range : ℕ) → All (λ row. row.range ≢ range) rows → has_number rows range ≡ false
absent_test [] range h = refl
absent_test (row ∷ rows) range h =
    ap (λ (t : Bool). t || has_number rows range) (ne_eqb row.range range (All-head (λ (one : RangeRow). one.range ≢ range) row rows h))
    ∙ absent_test rows range (All-tail (λ (one : RangeRow). one.range ≢ range) row rows h)

abbrev pub Apart : RangeRow → RangeRow → Type 0
Apart a b = a.range ≢ b.range

turned : (range : ℕ) (rows : List RangeRow) → All (λ row. row.range ≢ range) rows → All (λ row. range ≢ row.range) rows
turned range rows h = All-weaker (λ (row : RangeRow). row.range ≢ range) (λ row. range ≢ row.range) (λ row apart same. apart (sym same)) rows h

differ_from : (rows : List RangeRow) → numbers_differ rows ≡ true → AllPairs Apart rows
unfolding numbers_differ
differ_from [] h = AllPairs-nil Apart
differ_from (row ∷ rows) h =
    let parts = and_true (not (has_number rows row.range)) (numbers_differ rows) h in
    AllPairs-cons Apart row rows (turned row.range rows (absent_from rows row.range (not_true _ parts.0))) (differ_from rows parts.1)

pub differ_test : (rows : List RangeRow) → AllPairs Apart rows → numbers_differ rows ≡ true
unfolding numbers_differ
differ_test [] h = refl
differ_test (row ∷ rows) h =
    both_true (not (has_number rows row.range)) (numbers_differ rows)
    (ap not (absent_test rows row.range (All-weaker (λ (one : RangeRow). row.range ≢ one.range) (λ one. one.range ≢ row.range) (λ one apart same. apart (sym same)) rows (AllPairs-head Apart row rows h))))
    (differ_test rows (AllPairs-tail Apart row rows h))

-- ---- what a map's frames keep

pub record IsOrderlyMap (held : MapTold) : Type 0 where
  pub given : All (λ row. row.range < held.next_range) held.rows
  pub differ : AllPairs (λ a b. a.range ≢ b.range) held.rows
  pub few : length held.rows ≤ 256

abbrev pub IsOrderlyYet : Option MapTold → Type 0
IsOrderlyYet None = Unit {0}
IsOrderlyYet (Some held) = IsOrderlyMap held

apart_each : (held news : List RangeRow) → list_all (λ row. not (has_number held row.range)) news ≡ true → All (λ new. All (λ row. row.range ≢ new.range) held) news
apart_each held [] h = All-nil (λ (new : RangeRow). All (λ (row : RangeRow). row.range ≢ new.range) held)
apart_each held (new ∷ news) h =
    let parts = and_true (not (has_number held new.range)) (list_all (λ row. not (has_number held row.range)) news) h in
    All-cons (λ (one : RangeRow). All (λ (row : RangeRow). row.range ≢ one.range) held) new news (absent_from held new.range (not_true _ parts.0)) (apart_each held news parts.1)

across : (held news : List RangeRow) → All (λ new. All (λ row. row.range ≢ new.range) held) news → All (λ row. All (λ new. row.range ≢ new.range) news) held
across held news h k d within j e less = h j e less k d within

first_orderly : (next_range next_plan : ℕ) (rows : List RangeRow) → map_takes None (frames.Map next_range next_plan rows) ≡ true → IsOrderlyMap (record { next_range = next_range; rows = rows })
unfolding map_takes
first_orderly next_range next_plan rows h =
    let parts = and_true (nat_le (length rows) most_rows) (are_numbers next_range rows) h in
    let numbers = and_true (list_all (λ row. nat_lt row.range next_range) rows) (numbers_differ rows) parts.1 in
    record { given = given_from next_range rows numbers.0; differ = differ_from rows numbers.1; few = at_most_from (length rows) 256 parts.0 }

record CommitFits (held : MapTold) (plan next_range : ℕ) (olds : List ℕ) (news : List RangeRow) : Type 0 where
  plan_below : plan < 2 ^ 64 - 1
  not_below : held.next_range ≤ next_range
  room : length (rows_besides olds held.rows) + length news ≤ 256
  given : list_all (λ row. nat_lt row.range next_range) news ≡ true
  differ : numbers_differ news ≡ true
  absent : list_all (λ row. not (has_number held.rows row.range)) news ≡ true

commit_fits : (held : MapTold) (plan next_range : ℕ) (olds : List ℕ) (news : List RangeRow) → takes_commit held plan next_range olds news ≡ true → CommitFits held plan next_range olds news
commit_fits held plan next_range olds news h =
    let a = and_true _ _ h in
    let b = and_true _ _ a.0 in
    let c = and_true _ _ b.0 in
    let d = and_true _ _ c.0 in
    let e = and_true _ _ d.0 in
    let f = and_true _ _ e.0 in
    let numbers = and_true _ _ c.1 in
    record {
      plan_below = below_from plan (2 ^ 64 - 1) f.0;
      not_below = at_most_from held.next_range next_range f.1;
      room = at_most_from (length (rows_besides olds held.rows) + length news) 256 e.1;
      given = numbers.0;
      differ = numbers.1;
      absent = b.1;
    }

commit_orderly : (held : MapTold) (plan next_range : ℕ) (olds : List ℕ) (news : List RangeRow) → IsOrderlyMap held → CommitFits held plan next_range olds news
    → IsOrderlyMap (record { next_range = next_range; rows = rows_besides olds held.rows ++ news })
commit_orderly held plan next_range olds news is fits =
    let left : List RangeRow = rows_besides olds held.rows in
    let kept = λ (row : RangeRow). not (is_listed olds row.range) in
    let low = fits.not_below in
    record {
      given = All-append (λ (row : RangeRow). row.range < next_range) left news
          (All-filter kept (λ (row : RangeRow). row.range < next_range) held.rows (All-weaker (λ (row : RangeRow). row.range < held.next_range) (λ row. row.range < next_range) (λ row h. omega (arith, low)) held.rows is.given))
          (given_from next_range news fits.given);
      differ = AllPairs-append Apart left news (AllPairs-filter Apart kept held.rows is.differ) (differ_from news fits.differ)
          (All-filter kept (λ (row : RangeRow). All (λ (new : RangeRow). row.range ≢ new.range) news) held.rows (across held.rows news (apart_each held.rows news fits.absent)));
      few = let room = fits.room in omega (arith, room, length-append left news);
    }

frame_orderly : (held : Option MapTold) (frame : Frame) → IsOrderlyYet held → map_takes held frame ≡ true → IsOrderlyYet (map_after held frame)
unfolding map_takes map_after
frame_orderly None (frames.Map next_range next_plan rows) is h = first_orderly next_range next_plan rows h
frame_orderly (Some held) (frames.Commit plan next_range olds news) is h = commit_orderly held plan next_range olds news is (commit_fits held plan next_range olds news h)
frame_orderly None (frames.Begin range span tick) is h = tt
frame_orderly None (frames.Rows range rows) is h = tt
frame_orderly None (frames.Whole range tick) is h = tt
frame_orderly None (frames.Change range tick changes) is h = tt
frame_orderly None (frames.Commit plan next_range olds news) is h = tt
frame_orderly None (frames.Names next names) is h = tt
frame_orderly None (frames.Create table name) is h = tt
frame_orderly None (frames.Drop table) is h = tt
frame_orderly (Some held) (frames.Begin range span tick) is h = is
frame_orderly (Some held) (frames.Rows range rows) is h = is
frame_orderly (Some held) (frames.Whole range tick) is h = is
frame_orderly (Some held) (frames.Change range tick changes) is h = is
frame_orderly (Some held) (frames.Map next_range next_plan rows) is h = is
frame_orderly (Some held) (frames.Names next names) is h = is
frame_orderly (Some held) (frames.Create table name) is h = is
frame_orderly (Some held) (frames.Drop table) is h = is

-- frames of a map, one after another
abbrev AreTaken : Option MapTold → List Frame → Type 0
AreTaken held list = takes_all (told.Map held) list ≡ true

taken_parts : (held : Option MapTold) (frame : Frame) (list : List Frame) → AreTaken held (frame ∷ list) → (map_takes held frame ≡ true) × AreTaken (map_after held frame) list
unfolding takes_all takes after
taken_parts held frame list h = and_true (map_takes held frame) (takes_all (told.Map (map_after held frame)) list) h

all_orderly : (held : Option MapTold) (list : List Frame) → IsOrderlyYet held → AreTaken held list → IsOrderlyYet (map_after_all held list)
unfolding map_after_all
all_orderly held [] is h = is
all_orderly held (frame ∷ list) is h =
    let parts = taken_parts held frame list h in
    all_orderly (map_after held frame) list (frame_orderly held frame is parts.0) parts.1

taken : (list : List Frame) → AreFrames map_kind list → AreTaken None list
taken list are = ap (λ (t : Told). takes_all t list) (sym first_is_map) ∙ are.fit

pub frames_orderly : (list : List Frame) (listing : MapListed) (held : MapTold) → AreFrames map_kind list → listing ≡ map_listed list → listing.held ≡ Some held → IsOrderlyMap held
frames_orderly list listing held are is some = subst IsOrderlyYet (sym (ap (λ (l : MapListed). l.held) is) ∙ some) (all_orderly None list tt (taken list are))

-- ---- the number of the next plan

plan_within : (held : Option MapTold) (frame : Frame) (next : ℕ) → HasSpelling frame → map_takes held frame ≡ true → next < 2 ^ 64 → next_plan_after next frame < 2 ^ 64
unfolding map_takes
plan_within held (frames.Map next_range next_plan rows) next has h below = has.parts.1
plan_within (Some held) (frames.Commit plan next_range olds news) next has h below =
    let least = (commit_fits held plan next_range olds news h).plan_below in
    omega (arith, least, below)
plan_within None (frames.Commit plan next_range olds news) next has h below = absurd (true≢false (sym h))
plan_within held (frames.Begin range span tick) next has h below = below
plan_within held (frames.Rows range rows) next has h below = below
plan_within held (frames.Whole range tick) next has h below = below
plan_within held (frames.Change range tick changes) next has h below = below
plan_within held (frames.Names following names) next has h below = below
plan_within held (frames.Create table name) next has h below = below
plan_within held (frames.Drop table) next has h below = below

plans_within : (held : Option MapTold) (list : List Frame) (next : ℕ) → AllByRecursion HasSpelling list → AreTaken held list → next < 2 ^ 64 → next_plan_by next list < 2 ^ 64
unfolding next_plan_by
plans_within held [] next has h below = below
plans_within held (frame ∷ list) next has h below =
    let parts = taken_parts held frame list h in
    plans_within (map_after held frame) list (next_plan_after next frame) has.1 parts.1 (plan_within held frame next has.0 parts.0 below)

pub next_plan_within : (list : List Frame) (listing : MapListed) → AreFrames map_kind list → listing ≡ map_listed list → listing.next_plan < 2 ^ 64
next_plan_within list listing are is = subst (λ (n : ℕ). n < 2 ^ 64) (sym (ap (λ (l : MapListed). l.next_plan) is)) (plans_within None list 0 are.spelled (taken list are) (omega arith))

-- ---- rows in another order

all_moved : (P : RangeRow → Type 0) (rows sorted : List RangeRow) → IsPermutation rows sorted → All P rows → All P sorted
all_moved P rows sorted moved h = All-permutation P rows sorted moved h

is_one : RangeRow → RangeRow → Bool
is_one a b = a.range == b.range

one_flips : (a b : RangeRow) → is_one a b ≡ is_one b a
unfolding is_one
one_flips a b = grind (arith, nat_tests)

pub apart_moved : (rows sorted : List RangeRow) → IsPermutation rows sorted → AllPairs Apart rows → AllPairs Apart sorted
unfolding is_one
apart_moved rows sorted moved h i j d low high =
    eqb-false _ _
    (apart_from_distinct is_one sorted i j d
    (IsDistinct-IsPermutation is_one one_flips rows sorted moved (IsDistinct-from_apart is_one rows (λ k l e less within. ne_eqb _ _ (h k l e less within))))
    low high)

as_rows_apart : (rows : List RangeRow) → AllPairs Apart rows → HaveOwnRanges (map map_row rows)
as_rows_apart [] h = AllPairs-nil (λ (a b : MapRow). a.range ≢ b.range)
as_rows_apart (row ∷ rows) h =
    AllPairs-cons (λ (a b : MapRow). a.range ≢ b.range) (map_row row) (map map_row rows) (All-map (λ (b : MapRow). row.range ≢ b.range) map_row rows (AllPairs-head Apart row rows h))
    (as_rows_apart rows (AllPairs-tail Apart row rows h))

-- rows of frames that were sorted, and tile the keys over so many servers, are a map
pub is_map : (servers next_plan : ℕ) (held : MapTold) (sorted : List RangeRow) → IsOrderlyMap held → IsPermutation held.rows sorted → Rattle.tab_history.specs.Tilings.TileKeys (map map_row sorted) → AreInYard servers (map map_row sorted)
    → IsMapOver servers (record { next_range = held.next_range; next_plan = next_plan; rows = map map_row sorted })
is_map servers next_plan held sorted is moved tiles yard = record {
  tiles = tiles;
  in_yard = yard;
  differ = as_rows_apart sorted (apart_moved held.rows sorted moved is.differ);
  given = All-map (λ (row : MapRow). row.range < held.next_range) map_row sorted (all_moved (λ row. row.range < held.next_range) held.rows sorted moved is.given);
  few =
      let short = is.few in
      let long : length sorted ≡ length held.rows = length_permutation held.rows sorted moved in
      let same : length (map map_row sorted) ≡ length sorted = length-map sorted map_row in
      omega (arith, short, long, same);
}

-- ---- a checkpoint

pub rows_given : (next : ℕ) (rows : List MapRow) → All (λ row. row.range < next) rows → All (λ row. row.range < next) (map range_row rows)
rows_given next rows h = All-map (λ (row : RangeRow). row.range < next) range_row rows h

pub rows_apart : (rows : List MapRow) → HaveOwnRanges rows → AllPairs Apart (map range_row rows)
rows_apart [] h = AllPairs-nil Apart
rows_apart (row ∷ rows) h =
    AllPairs-cons Apart (range_row row) (map range_row rows) (All-map (λ (b : RangeRow). row.range ≢ b.range) range_row rows (AllPairs-head (λ (a b : MapRow). a.range ≢ b.range) row rows h))
    (rows_apart rows (AllPairs-tail (λ (a b : MapRow). a.range ≢ b.range) row rows h))

map_fits : (servers : ℕ) (held : SpelledMap) → IsMapOver servers held → map_takes None (frames.Map held.next_range held.next_plan (map range_row held.rows)) ≡ true
unfolding map_takes
map_fits servers held is =
    let few = is.few in
    let same : length (map range_row held.rows) ≡ length held.rows = length-map held.rows range_row in
    both_true _ _ (at_most_test (length (map range_row held.rows)) 256 (omega (arith, few, same)))
    (both_true _ _ (given_test held.next_range (map range_row held.rows) (rows_given held.next_range held.rows is.given)) (differ_test (map range_row held.rows) (rows_apart held.rows is.differ)))

abbrev listed_map : SpelledMap → Frame
listed_map held = frames.Map held.next_range held.next_plan (map range_row held.rows)

one_fits : (servers : ℕ) (held : SpelledMap) → IsMapOver servers held → takes_all (told.Map None) (listed_map held ∷ []) ≡ true
unfolding takes_all takes
one_fits servers held is = both_true _ _ (map_fits servers held is) refl

one_told : (held : SpelledMap) → map_after_all None (listed_map held ∷ []) ≡ Some (record { next_range = held.next_range; rows = map range_row held.rows })
unfolding map_after_all map_after
one_told held = refl

one_plan : (held : SpelledMap) → next_plan_by 0 (listed_map held ∷ []) ≡ held.next_plan
unfolding next_plan_by
one_plan held = refl

is_whole : (t : Told) (held : MapTold) → t ≡ told.Map (Some held) → is_whole_store t ≡ true
unfolding is_whole_store
is_whole t held is = rw is refl

one_spells : (servers : ℕ) (held : SpelledMap) → IsMapOver servers held → spelled_map (listed_map held ∷ []) ≡ Some held
unfolding spelled_map
one_spells servers held is =
    ap (map_of (next_plan_by 0 (listed_map held ∷ []))) (told_by_map (listed_map held ∷ []) ∙ ap (λ (o : Option MapTold). told.Map o) (one_told held))
    ∙ (ap (λ (n : ℕ). Some (map_told n (record { next_range = held.next_range; rows = map range_row held.rows }))) (one_plan held)
    ∙ ap (λ (rows : List MapRow). Some (record { next_range = held.next_range; next_plan = held.next_plan; rows = rows }))
    (ap (in_order by_start) (as_map_rows held.rows)
    ∙ in_order_rising by_start by_start_total held.rows held.rows (tiles_rise (At 0 []) held.rows is.tiles) (IsPermutation-refl held.rows)))

pub map_checks_out : (servers : ℕ) (list : List Frame) (frame : Frame) (held : SpelledMap) → IsMapOver servers held → list ≡ frame ∷ [] → frame ≡ listed_map held → HasSpelling frame → IsMapCheckpoint list held
map_checks_out servers list frame held is one same has =
    let whole : list ≡ listed_map held ∷ [] = one ∙ ap (λ (f : Frame). f ∷ []) same in
    subst (λ (l : List Frame). IsMapCheckpoint l held) (sym whole)
    (record {
      is = refl;
      are = record {
        spelled = (subst HasSpelling same has, tt);
        fit = ap (λ (t : Told). takes_all t (listed_map held ∷ [])) first_is_map ∙ one_fits servers held is;
        whole = is_whole (told_by map_kind (listed_map held ∷ [])) (record { next_range = held.next_range; rows = map range_row held.rows })
            (told_by_map (listed_map held ∷ []) ∙ ap (λ (o : Option MapTold). told.Map o) (one_told held));
      };
      stand = one_spells servers held is;
    })
