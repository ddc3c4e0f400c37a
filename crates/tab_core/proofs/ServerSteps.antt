-- What a server does for a course: a change that was made, one that fell, and one that is in doubt.
use Rattle.std.proofs.Common.{◌≡◌, ◌≢◌, ℕ, suc, ◌+◌, ◌≤◌, ◌⊎◌, max, List, [], ◌∷◌, length, Bool, true, false, ◌==◌, not, Contains, refl, sym, ap, ◌∙◌, subst, inl, inr, eq-eqb, arith}
use Rattle.std.specs.Prelude.{Option, Some, None, Ok, Err, is_some, slice_get, Any, IfSome, if◌then◌else◌}
use Rattle.std.proofs.lemmas.Bool.{eqb-true, eqb-false, ne_eqb}
use Rattle.std.proofs.lemmas.Option.{none-some}
use Rattle.std.proofs.lemmas.List.Elements.{All-contains}
use Rattle.std.specs.Result.{result_unwrap_or}
use Rattle.tab_rows.specs.Rows.{RowView}
use Rattle.tab_rows.specs.Spans.{rows_in}
use Rattle.tab_ops.specs.Groups.{ItemView, group_refusal}
use Rattle.tab_ops.specs.Changes.{applied, group_outcome, group_keys}
use Rattle.tab_page.proofs.RisingLists.{Contains-here, Contains-there, Contains-cons_cases, Contains-filter, Contains-filtered, All-from_each}
use Rattle.tab_history.specs.World.{World}
use Rattle.tab_history.specs.Doubts.{EachDoubt, doubt_of, without_doubt}
use Rattle.tab_history.specs.Legality.{acted, accepted, world_after, doubts_after, commit_after}
use Rattle.tab_history.specs.Configurations.{MapRow, Configuration, ticked, turned_by, next_tick_of}
use Rattle.tab_history.specs.Ranges.{routed}
use Rattle.tab_history.specs.declared.entries.Entry.{Entry}
use Rattle.tab_history.specs.declared.entries.Entry.TheVariants as entry
use Rattle.tab_history.specs.declared.entries.Doubt.{Doubt}
use Rattle.tab_history.specs.declared.entries.Doubt.TheVariants as doubt
use Rattle.tab_history.proofs.RangeLaws.{held_here}
use Rattle.tab_server.specs.declared.steps.RangeChange.{RangeChange}
use Rattle.tab_server.specs.Replays.{SpelledRange, with_changes}
use Rattle.tab_server.specs.Contents.{told_ranges, told_with, with_change}
use Rattle.tab_server.specs.Serving.{ServerView}
use Rattle.tab_core.specs.Courses.{Course, IsCourse, IsOfGroup, committed_by, store_of, store_of_row}
use Rattle.tab_core.specs.Points.{held_in}
use Rattle.tab_core.specs.Steps.{after_entry, Suits, IsAlone, EndsDoubt}
use Rattle.tab_core.specs.Cores.{CoreView, HoldsRow, ChangesBy, HoldsRanges, KeepsServer, KeepsCourse, with_server, IsSettledServer, IsChangeBy}
use Rattle.tab_core.proofs.Pairs.{some_is}
use Rattle.tab_core.proofs.Sorting.{same_by}
use Rattle.tab_core.proofs.Views.{ticked_rows, Routes, routes, leaves_there}
use Rattle.tab_core.proofs.Settling.{found_of, store_same}
use Rattle.tab_core.proofs.Staying.{courses_stay, found_differs}
use Rattle.tab_core.proofs.Keeping.{if_none, still_held, held_changed, Goes, goes_on}

-- ---- a change makes of a server's ranges what its operation does

changed_own : (step : RangeChange) (one : SpelledRange) → step.range ≡ one.range → told_with (Some step) one ≡ with_changes step.changes.list (step.changes.tick + 1) one
changed_own step one same = ap (λ (b : Bool). if b then with_changes step.changes.list (step.changes.tick + 1) one else one) (eq-eqb step.range one.range same)

changed_other : (step : RangeChange) (one : SpelledRange) → step.range ≢ one.range → told_with (Some step) one ≡ one
changed_other step one apart = ap (λ (b : Bool). if b then with_changes step.changes.list (step.changes.tick + 1) one else one) (ne_eqb step.range one.range apart)

abbrev spelled_as : MapRow → List RowView → ℕ → SpelledRange
spelled_as row rows next = record { range = row.range; span = row.span; rows = rows; next_tick = next; is_whole = true }

-- of the range that it is routed to
change_here : (world : World) (config : Configuration) (row : MapRow) (table : ℕ) (group : List ItemView) (step : RangeChange) → step.range ≡ row.range → next_tick_of config.next_ticks row.range ≤ step.changes.tick
    → group_refusal group ≡ None → routed config.rows (group_keys table group) ≡ Some row
    → applied (rows_in row.span world.rows) step.changes.list ≡ result_unwrap_or (group_outcome (rows_in row.span world.rows) table step.changes.tick group) (rows_in row.span world.rows)
    → told_with (Some step) (held_in world config row) ≡ held_in (acted world (doubt.Change table group step.changes.tick)) (ticked config (Some (doubt.Change table group step.changes.tick))) row
unfolding held_in
change_here world config row table group step range next allowed found leaves =
    let held = held_here world config row table step.changes.tick group allowed found in
    let rows = leaves ∙ sym held.0 in
    let tick = step.changes.tick in
    let before = next_tick_of config.next_ticks row.range in
    let greater : tick + 1 ≡ max (tick + 1) before = omega (arith, next) in
    let ticks = greater ∙ sym held.1 in
    changed_own step (held_in world config row) range ∙ (λ i. spelled_as row (rows i) (ticks i))

-- and of each other range
change_there : (world : World) (config : Configuration) (row : MapRow) (step : RangeChange) (what : Doubt) → step.range ≢ row.range → held_in (acted world what) (ticked config (Some what)) row ≡ held_in world config row
    → told_with (Some step) (held_in world config row) ≡ held_in (acted world what) (ticked config (Some what)) row
unfolding held_in
change_there world config row step what apart leaves = changed_other step (held_in world config row) apart ∙ sym leaves

pub change_makes : (servers : ℕ) (course : Course) (number : ℕ) (step : RangeChange) (operation : Doubt) → IsCourse servers course → IsChangeBy course number step operation
    → ChangesBy course.past course.config number step operation
change_makes servers course number step operation is by = record {
  about = ap (store_of course.config) by.is ∙ (ap store_of_row by.routed_to ∙ ap (λ (n : ℕ). suc (suc n)) by.server);
  makes = All-from_each (λ row. row.server ≡ number → Makes operation row) course.config.rows (λ row has own. subst (λ (what : Doubt). Makes what row) (sym by.is) (made row has (row.range == by.row.range) refl));
}
  where
    Makes : Doubt → MapRow → Type 0
    Makes what row = told_with (Some step) (held_in course.past.world course.config row) ≡ held_in (acted course.past.world what) (ticked course.config (Some what)) row

    what : Doubt
    what = doubt.Change by.table by.group step.changes.tick

    allowed : group_refusal by.group ≡ None
    allowed = (subst IsOfGroup by.is by.of_group).allowed

    to : Routes course.config.rows by.table by.group
    to = routes course.config.rows by.table by.group is.config.map.tiles allowed

    among : Contains course.config.rows by.row
    among = subst (λ (row : MapRow). Contains course.config.rows row) (sym (some_is to.row by.row (sym to.found ∙ by.routed_to))) to.among

    made : (row : MapRow) → Contains course.config.rows row → (t : Bool) → (row.range == by.row.range) ≡ t → Makes what row
    made row has true e =
        let same : row ≡ by.row = same_by (λ (it : MapRow). it.range) course.config.rows row by.row is.config.map.differ has among (eqb-true row.range by.row.range e) in
        subst (λ (it : MapRow). Makes what it) (sym same) (change_here course.past.world course.config by.row by.table by.group step by.range by.next allowed by.routed_to by.leaves)
    made row has false e =
        let apart : row.range ≢ by.row.range = eqb-false row.range by.row.range e in
        change_there course.past.world course.config row step what (λ same. apart (sym same ∙ by.range))
        (leaves_there course.past.world course.config by.row row by.table step.changes.tick by.group is.config.map.tiles is.world.rows_rise allowed by.routed_to has apart)

-- ---- the doubts that are left when an operation has ended

-- they are open as before, and are all about other stores
record IsLeft (course : Course) (operation : Doubt) (left : List (ℕ × Doubt)) : Type 0 where
  among : (it : ℕ × Doubt) → Contains left it → Contains course.past.doubts it
  kept : (it : ℕ × Doubt) → Contains course.past.doubts it → store_of course.config it.1 ≢ store_of course.config operation → Contains left it
  none : EachDoubt (λ other. store_of course.config other ≢ store_of course.config operation) left

all_left : (course : Course) (operation : Doubt) → IsAlone course operation → IsLeft course operation course.past.doubts
all_left course operation alone = record { among = λ it has. has; kept = λ it has apart. has; none = alone }

one_left : (servers : ℕ) (course : Course) (ask : ℕ) (operation : Doubt) → IsCourse servers course → doubt_of course.past.doubts ask ≡ Some operation
    → IsLeft course operation (without_doubt course.past.doubts ask)
one_left servers course ask operation is found = record {
  among = λ it has. (Contains-filtered (λ (d : ℕ × Doubt). not (d.0 == ask)) course.past.doubts it has).0;
  kept = λ it has apart. Contains-filter (λ (d : ℕ × Doubt). not (d.0 == ask)) course.past.doubts it has (by_ask it has apart (it.0 == ask) refl);
  none = subst (λ (one : Option Doubt). IfSome one (λ ended. EachDoubt (λ other. store_of course.config other ≢ store_of course.config ended) (without_doubt course.past.doubts ask))) found
      (found_differs (λ a b. store_of course.config a ≢ store_of course.config b) (λ a b apart e. apart (sym e)) course.past.doubts ask is.config.stores_differ);
}
  where
    by_ask : (it : ℕ × Doubt) → Contains course.past.doubts it → store_of course.config it.1 ≢ store_of course.config operation → (t : Bool) → (it.0 == ask) ≡ t → not (it.0 == ask) ≡ true
    by_ask it has apart true e =
        let same : Some it.1 ≡ Some operation = sym (found_of course.past.doubts it is.asks_differ has) ∙ (ap (doubt_of course.past.doubts) (eqb-true it.0 ask e) ∙ found) in
        absurd (apart (ap (store_of course.config) (sym (some_is it.1 operation same))))
    by_ask it has apart false e = ap not e

-- ---- a change that fell

pub fell : {D T : Type 0} (course : Course) (core : CoreView D T) (number ask : ℕ) (old new : ServerView D T) (operation : Doubt) → KeepsCourse course core → course.past.commit ≡ None
    → slice_get core.servers number ≡ Some old → doubt_of course.past.doubts ask ≡ Some operation → store_of course.config operation ≡ suc (suc number)
    → IsSettledServer number (told_ranges old.held) new → KeepsCourse (after_entry course (entry.Settled ask false)) (with_server core number new)
fell {D} {T} course core number ask old new operation keeps none here found about settled =
    goes_on course later core number old new None keeps none here will goes own
  where
    later : Course
    later = after_entry course (entry.Settled ask false)

    suits : Suits (length core.servers) course (entry.Settled ask false)
    suits = (ap (λ (one : Option Doubt). is_some one) found, tt)

    will : IsCourse (length core.servers) later
    will = courses_stay (length core.servers) course (entry.Settled ask false ∷ []) keeps.is (suits, tt)

    left : IsLeft course operation (without_doubt course.past.doubts ask)
    left = one_left (length core.servers) course ask operation keeps.is found

    goes : Goes course later number None
    goes = record {
      world = refl;
      config = refl;
      commit = none;
      own = tt;
      among = λ it has. inl (left.among it has);
      kept = λ it has apart. left.kept it has (λ e. apart (e ∙ about));
    }

    own : KeepsServer later number new
    own = record {
      number_is = settled.number_is;
      ranges = record {
        held = All-from_each (λ row. row.server ≡ number → HoldsRow later.past later.config new.held row) course.config.rows (λ row has is.
            still_held old.held new.held row.range (held_in course.past.world course.config row) settled.told_is
            (All-contains (λ (it : MapRow). it.server ≡ number → HoldsRow course.past course.config old.held it) course.config.rows row (keeps.servers number old here).ranges.held has is));
        in_doubt = if_none (λ step. Any (λ it. ChangesBy later.past later.config number step it.1) later.past.doubts) new.doubt settled.clear;
      };
      committed = if_none (λ plan. HoldsRanges later.past (committed_by later.config plan) number new) later.past.commit none;
      settled = λ clear n d within e. left.none n d within (e ∙ sym about);
    }

-- ---- a change whose frame is in doubt

pub doubted : {D T : Type 0} (course : Course) (core : CoreView D T) (number ask now : ℕ) (old new : ServerView D T) (step : RangeChange) (operation : Doubt) → KeepsCourse course core
    → course.past.commit ≡ None → slice_get core.servers number ≡ Some old → Suits (length core.servers) course (entry.Maybe ask now operation) → IsChangeBy course number step operation
    → new.store.number ≡ number → told_ranges new.held ≡ told_ranges old.held → new.doubt ≡ Some step
    → KeepsCourse (after_entry course (entry.Maybe ask now operation)) (with_server core number new)
doubted {D} {T} course core number ask now old new step operation keeps none here suits by number_is told in_doubt =
    goes_on course later core number old new None keeps none here will goes own
  where
    later : Course
    later = after_entry course (entry.Maybe ask now operation)

    will : IsCourse (length core.servers) later
    will = courses_stay (length core.servers) course (entry.Maybe ask now operation ∷ []) keeps.is (suits, tt)

    makes : ChangesBy course.past course.config number step operation
    makes = change_makes (length core.servers) course number step operation keeps.is by

    by_case : (it : ℕ × Doubt) → ((ask, operation) ≡ it) ⊎ Contains course.past.doubts it → Contains course.past.doubts it ⊎ (store_of course.config it.1 ≡ suc (suc number))
    by_case it (inl same) = inr (ap (λ (d : ℕ × Doubt). store_of course.config d.1) (sym same) ∙ makes.about)
    by_case it (inr before) = inl before

    goes : Goes course later number None
    goes = record {
      world = refl;
      config = refl;
      commit = none;
      own = tt;
      among = λ it has. by_case it (Contains-cons_cases (ask, operation) it course.past.doubts has);
      kept = λ it has apart. Contains-there (ask, operation) it course.past.doubts has;
    }

    any : Any (λ it. ChangesBy later.past later.config number step it.1) later.past.doubts
    any =
        let there = Contains-here (ask, operation) course.past.doubts in
        (there.0, (ask, operation), there.1, there.2, record { about = makes.about; makes = makes.makes })

    own : KeepsServer later number new
    own = record {
      number_is = number_is;
      ranges = record {
        held = All-from_each (λ row. row.server ≡ number → HoldsRow later.past later.config new.held row) course.config.rows (λ row has is.
            still_held old.held new.held row.range (held_in course.past.world course.config row) told
            (All-contains (λ (it : MapRow). it.server ≡ number → HoldsRow course.past course.config old.held it) course.config.rows row (keeps.servers number old here).ranges.held has is));
        in_doubt = subst (λ (o : Option RangeChange). IfSome o (λ change. Any (λ it. ChangesBy later.past later.config number change it.1) later.past.doubts)) (sym in_doubt) any;
      };
      committed = if_none (λ plan. HoldsRanges later.past (committed_by later.config plan) number new) later.past.commit none;
      settled = λ clear. absurd (none-some step (sym clear ∙ in_doubt));
    }

-- ---- a change that was made

-- an entry that accepts an operation changes no more of the configuration, and leaves the doubts about other stores
record Ended (course : Course) (operation : Doubt) (what : Entry) : Type 0 where
  config : turned_by (ticked course.config (accepted course.past.doubts what)) what ≡ ticked course.config (accepted course.past.doubts what)
  commit : commit_after course.past.commit what ≡ course.past.commit
  left : IsLeft course operation (doubts_after course.past.doubts what)

ended : (servers : ℕ) (course : Course) (operation : Doubt) (what : Entry) → IsCourse servers course → accepted course.past.doubts what ≡ Some operation → EndsDoubt course operation what
    → Ended course operation what
ended servers course operation (entry.Change ask now table group (Ok tick)) is stands ends = record { config = refl; commit = refl; left = all_left course operation ends }
ended servers course operation (entry.Change ask now table group (Err refusal)) is stands ends = absurd (none-some operation stands)
ended servers course operation (entry.Create ask name (Some table)) is stands ends = record { config = refl; commit = refl; left = all_left course operation ends }
ended servers course operation (entry.Create ask name None) is stands ends = absurd (none-some operation stands)
ended servers course operation (entry.Drop ask name true) is stands ends = record { config = refl; commit = refl; left = all_left course operation ends }
ended servers course operation (entry.Drop ask name false) is stands ends = absurd (none-some operation stands)
ended servers course operation (entry.Settled ask true) is stands ends = record { config = refl; commit = refl; left = one_left servers course ask operation is ends }
ended servers course operation (entry.Settled ask false) is stands ends = absurd (none-some operation stands)
ended servers course operation (entry.Maybe ask now what) is stands ends = absurd (none-some operation stands)
ended servers course operation (entry.Bounds bounds) is stands ends = absurd (none-some operation stands)
ended servers course operation (entry.Turn plan turn) is stands ends = absurd (none-some operation stands)
ended servers course operation entry.Stopped is stands ends = absurd (none-some operation stands)
ended servers course operation (entry.Resolve ask name table) is stands ends = absurd (none-some operation stands)
ended servers course operation (entry.Get ask table pk rk found) is stands ends = absurd (none-some operation stands)
ended servers course operation (entry.Page ask table options page) is stands ends = absurd (none-some operation stands)
ended servers course operation (entry.List ask from top names next) is stands ends = absurd (none-some operation stands)
ended servers course operation (entry.Denied ask why) is stands ends = absurd (none-some operation stands)
ended servers course operation (entry.Refused why plan) is stands ends = absurd (none-some operation stands)

pub made : {D T : Type 0} (course : Course) (core : CoreView D T) (number : ℕ) (old new : ServerView D T) (step : RangeChange) (operation : Doubt) (what : Entry) → KeepsCourse course core
    → course.past.commit ≡ None → slice_get core.servers number ≡ Some old → Suits (length core.servers) course what → accepted course.past.doubts what ≡ Some operation
    → EndsDoubt course operation what → IsChangeBy course number step operation → IsSettledServer number (with_change (told_ranges old.held) step) new
    → KeepsCourse (after_entry course what) (with_server core number new)
made {D} {T} course core number old new step operation what keeps none here suits stands ends by settled =
    goes_on course later core number old new (Some operation) keeps none here will goes own
  where
    later : Course
    later = after_entry course what

    will : IsCourse (length core.servers) later
    will = courses_stay (length core.servers) course (what ∷ []) keeps.is (suits, tt)

    makes : ChangesBy course.past course.config number step operation
    makes = change_makes (length core.servers) course number step operation keeps.is by

    end : Ended course operation what
    end = ended (length core.servers) course operation what keeps.is stands ends

    goes : Goes course later number (Some operation)
    goes = record {
      world = ap (world_after course.past.world) stands;
      config = end.config ∙ ap (ticked course.config) stands;
      commit = end.commit ∙ none;
      own = (by.of_group, makes.about);
      among = λ it has. inl (end.left.among it has);
      kept = λ it has apart. end.left.kept it has (λ e. apart (e ∙ makes.about));
    }

    same_rows : later.config.rows ≡ course.config.rows
    same_rows = ap (λ (config : Configuration). config.rows) goes.config ∙ ticked_rows course.config (Some operation)

    held : (row : MapRow) → Contains later.config.rows row → row.server ≡ number → HoldsRow later.past later.config new.held row
    held row has is =
        let before : Contains course.config.rows row = subst (λ (rows : List MapRow). Contains rows row) same_rows has in
        held_changed old.held new.held step row.range (held_in course.past.world course.config row) (held_in later.past.world later.config row) settled.told_is
        (All-contains (λ (it : MapRow). it.server ≡ number → told_with (Some step) (held_in course.past.world course.config it) ≡ held_in (acted course.past.world operation) (ticked course.config (Some operation)) it)
        course.config.rows row makes.makes before is
        ∙ sym (λ i. held_in (goes.world i) (goes.config i) row))
        (All-contains (λ (it : MapRow). it.server ≡ number → HoldsRow course.past course.config old.held it) course.config.rows row (keeps.servers number old here).ranges.held before is)

    own : KeepsServer later number new
    own = record {
      number_is = settled.number_is;
      ranges = record {
        held = All-from_each (λ row. row.server ≡ number → HoldsRow later.past later.config new.held row) later.config.rows held;
        in_doubt = if_none (λ change. Any (λ it. ChangesBy later.past later.config number change it.1) later.past.doubts) new.doubt settled.clear;
      };
      committed = if_none (λ plan. HoldsRanges later.past (committed_by later.config plan) number new) later.past.commit goes.commit;
      settled = λ clear n d within e. end.left.none n d within (sym (store_same later.config course.config _ same_rows) ∙ (e ∙ sym makes.about));
    }
