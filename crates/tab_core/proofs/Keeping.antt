-- A service goes on with a course by what one server does: what is held for the map, for the names and for the other servers is as before.
use Rattle.std.proofs.Common.{◌≡◌, ◌≢◌, ℕ, zero, suc, ◌⊎◌, List, [], ◌∷◌, length, set, Bool, true, false, cond, ◌==◌, Contains, refl, sym, ap, ◌∙◌, subst, inl, inr, arith}
use Rattle.std.specs.Prelude.{Option, Some, None, find, option_map, slice_get, Any, IfSome, IsSomeAnd}
use Rattle.std.proofs.lemmas.Bool.{eqb-true, eqb-false}
use Rattle.std.proofs.lemmas.Option.{none-some, IfSome_then}
use Rattle.std.proofs.lemmas.List.{length-set}
use Rattle.std.proofs.lemmas.List.Elements.{All-contains}
use Rattle.tab_page.proofs.RisingLists.{All-from_each}
use Rattle.tab_history.specs.World.{World}
use Rattle.tab_history.specs.Doubts.{Accepts}
use Rattle.tab_history.specs.Legality.{acted, world_after}
use Rattle.tab_history.specs.Configurations.{MapRow, Configuration, ticked}
use Rattle.tab_history.specs.declared.entries.Doubt.{Doubt}
use Rattle.tab_history.specs.declared.entries.Doubt.TheVariants as doubt
use Rattle.tab_server.specs.declared.ranges.Marked.{Marked}
use Rattle.tab_server.specs.declared.steps.RangeChange.{RangeChange}
use Rattle.tab_server.specs.Replays.{SpelledRange}
use Rattle.tab_server.specs.Contents.{told_of, told_ranges, told_with, with_change}
use Rattle.tab_server.specs.Serving.{ServerView, range_of}
use Rattle.tab_master.specs.Spelled.{SpelledNames}
use Rattle.tab_master.specs.Names.{names_stepped}
use Rattle.tab_master.specs.NamesCalls.{NamesKept}
use Rattle.tab_master.specs.RangeMaps.{MapKept}
use Rattle.tab_master.specs.declared.steps.NamesStep.{NamesStep}
use Rattle.tab_core.specs.Courses.{Course, IsCourse, IsOfGroup, committed_by, store_of}
use Rattle.tab_core.specs.Points.{held_in}
use Rattle.tab_core.specs.Cores.{CoreView, told_map, told_names, KeepsMap, NamesBy, KeepsNames, IsSettledAt, HoldsRow, ChangesBy, HoldsRanges, KeepsServer, KeepsCourse, with_server}
use Rattle.tab_core.proofs.Pairs.{some_is}
use Rattle.tab_core.proofs.Views.{ticked_same, ticked_rows, Leaves, StaysSame, names_view, names_stay, range_view, range_stays, leaves_range}
use Rattle.tab_core.proofs.Settling.{store_same}
use Rattle.tab_core.proofs.Remembering.{same_number}

-- ---- one of a list is set

set_here : {X : Type 0} (xs : List X) (place : ℕ) (x y : X) → slice_get xs place ≡ Some x → slice_get (set xs place y) place ≡ Some y
set_here [] place x y here = absurd cc
set_here (first ∷ xs) zero x y here = refl
set_here (first ∷ xs) (suc place) x y here = set_here xs place x y here

set_there : {X : Type 0} (xs : List X) (place other : ℕ) (y : X) → other ≢ place → slice_get (set xs place y) other ≡ slice_get xs other
set_there [] place other y apart = refl
set_there (first ∷ xs) zero zero y apart = absurd (apart refl)
set_there (first ∷ xs) zero (suc other) y apart = refl
set_there (first ∷ xs) (suc place) zero y apart = refl
set_there (first ∷ xs) (suc place) (suc other) y apart = set_there xs place other y (λ e. apart (ap suc e))

-- what holds of the new one, and of the others as they were, holds of each
set_each : {X : Type 0} (P : ℕ → X → Type 0) (xs : List X) (place : ℕ) (old new : X) → slice_get xs place ≡ Some old → P place new
    → ((other : ℕ) (x : X) → other ≢ place → slice_get xs other ≡ Some x → P other x) → (other : ℕ) (x : X) → slice_get (set xs place new) other ≡ Some x → P other x
set_each P xs place old new here own others other x there = by_test (other == place) refl
  where
    by_test : (t : Bool) → (other == place) ≡ t → P other x
    by_test true e =
        let same : other ≡ place = eqb-true other place e in
        let found : Some new ≡ Some x = sym (set_here xs place old new here) ∙ (ap (λ (k : ℕ). slice_get (set xs place new) k) (sym same) ∙ there) in
        subst (λ (k : ℕ). P k x) (sym same) (subst (P place) (sym (some_is new x found)) own)
    by_test false e =
        let apart : other ≢ place = eqb-false other place e in
        others other x apart (sym (set_there xs place other new apart) ∙ there)

-- ---- the range of a number, by what is told of it

abbrev found_told : List SpelledRange → ℕ → Option SpelledRange
found_told told range = find (λ one. one.range == range) told

told_found : {T : Type 0} (held : List (Marked T)) (range : ℕ) → found_told (told_ranges held) range ≡ option_map told_of (range_of held range)
told_found [] range = refl
told_found (first ∷ held) range = by_test (told_found held range) (first.range.id == range)
  where
    by_test : found_told (told_ranges held) range ≡ option_map told_of (range_of held range) → (b : Bool)
        → cond b (Some (told_of first)) (found_told (told_ranges held) range) ≡ option_map told_of (cond b (Some first) (range_of held range))
    by_test rest true = refl
    by_test rest false = rest

-- a change leaves the numbers
changed_found : (told : List SpelledRange) (step : RangeChange) (range : ℕ) → found_told (with_change told step) range ≡ option_map (told_with (Some step)) (found_told told range)
changed_found [] step range = refl
changed_found (first ∷ told) step range =
    ap (λ (n : ℕ). cond (n == range) (Some (told_with (Some step) first)) (found_told (with_change told step) range)) (same_number step first)
    ∙ by_test (changed_found told step range) (first.range == range)
  where
    by_test : found_told (with_change told step) range ≡ option_map (told_with (Some step)) (found_told told range) → (b : Bool)
        → cond b (Some (told_with (Some step) first)) (found_told (with_change told step) range) ≡ option_map (told_with (Some step)) (cond b (Some first) (found_told told range))
    by_test rest true = refl
    by_test rest false = rest

some_told : {T : Type 0} (held : Option (Marked T)) (one : SpelledRange) → IsSomeAnd held (λ marked. told_of marked ≡ one) → option_map told_of held ≡ Some one
some_told None one is = absurd is
some_told (Some marked) one is = ap Some is

told_some : {T : Type 0} (held : Option (Marked T)) (one : SpelledRange) → option_map told_of held ≡ Some one → IsSomeAnd held (λ marked. told_of marked ≡ one)
told_some None one e = none-some one e
told_some (Some marked) one e = sym (some_is (told_of marked) one e)

-- where the same is told, the same is held
pub still_held : {T : Type 0} (old new : List (Marked T)) (range : ℕ) (one : SpelledRange) → told_ranges new ≡ told_ranges old → IsSomeAnd (range_of old range) (λ marked. told_of marked ≡ one)
    → IsSomeAnd (range_of new range) (λ marked. told_of marked ≡ one)
still_held old new range one same is =
    told_some (range_of new range) one
    (sym (told_found new range) ∙ (ap (λ (told : List SpelledRange). found_told told range) same ∙ (told_found old range ∙ some_told (range_of old range) one is)))

-- and where it is told with a change, what the change makes of it
pub held_changed : {T : Type 0} (old new : List (Marked T)) (step : RangeChange) (range : ℕ) (one later : SpelledRange) → told_ranges new ≡ with_change (told_ranges old) step → told_with (Some step) one ≡ later
    → IsSomeAnd (range_of old range) (λ marked. told_of marked ≡ one) → IsSomeAnd (range_of new range) (λ marked. told_of marked ≡ later)
held_changed old new step range one later told makes is =
    told_some (range_of new range) later
    (sym (told_found new range) ∙ (ap (λ (ranges : List SpelledRange). found_told ranges range) told ∙ (changed_found (told_ranges old) step range
    ∙ (ap (option_map (told_with (Some step))) (told_found old range ∙ some_told (range_of old range) one is) ∙ ap Some makes))))

-- ---- what a server's step makes of a course

-- An operation of the server stands, or none does. Other doubts than those about the server's store are as before.
pub record Goes (course later : Course) (number : ℕ) (stood : Option Doubt) : Type 0 where
  pub world : later.past.world ≡ world_after course.past.world stood
  pub config : later.config ≡ ticked course.config stood
  pub commit : later.past.commit ≡ None
  pub own : IfSome stood (λ operation. IsOfGroup operation × (store_of course.config operation ≡ suc (suc number)))
  pub among : (it : ℕ × Doubt) → Contains later.past.doubts it → Contains course.past.doubts it ⊎ (store_of course.config it.1 ≡ suc (suc number))
  pub kept : (it : ℕ × Doubt) → Contains course.past.doubts it → store_of course.config it.1 ≢ suc (suc number) → Contains later.past.doubts it

no_plan : (commit : Option ℕ) (P : ℕ → Type 0) → commit ≡ None → IsSomeAnd commit P → ⊥
no_plan None P none some = some
no_plan (Some plan) P none some = none-some plan (sym none)

pub if_none : {X : Type 0} (P : X → Type 0) (o : Option X) → o ≡ None → IfSome o P
if_none P None none = tt
if_none P (Some x) none = absurd (none-some x (sym none))

-- a server's operation leaves the names
leaves_names : (world : World) (config : Configuration) (number : ℕ) (what : Doubt) → store_of config what ≡ suc (suc number) → Leaves names_view world config what
leaves_names world config number (doubt.Change table group tick) own = refl
leaves_names world config number (doubt.Create name table) own = absurd (omega (arith, own))
leaves_names world config number (doubt.Drop name) own = absurd (omega (arith, own))

module _ (servers : ℕ) (course later : Course) (number : ℕ) (stood : Option Doubt) (is : IsCourse servers course) (will : IsCourse servers later) (goes : Goes course later number stood) where
  same_rows : later.config.rows ≡ course.config.rows
  same_rows = ap (λ (config : Configuration). config.rows) goes.config ∙ ticked_rows course.config stood

  same_store : (what : Doubt) → store_of later.config what ≡ store_of course.config what
  same_store what = store_same later.config course.config what same_rows

  -- what the server's operations leave is seen as before
  seen : {A : Type 0} (view : World → Configuration → A) → ((what : Doubt) → IsOfGroup what → store_of course.config what ≡ suc (suc number) → Leaves view course.past.world course.config what)
      → view later.past.world later.config ≡ view course.past.world course.config
  seen {A} view leaves = (λ i. view (goes.world i) (goes.config i)) ∙ by_stood stood goes.own
    where
      by_stood : (o : Option Doubt) → IfSome o (λ operation. IsOfGroup operation × (store_of course.config operation ≡ suc (suc number)))
          → view (world_after course.past.world o) (ticked course.config o) ≡ view course.past.world course.config
      by_stood None own = refl
      by_stood (Some operation) own = leaves operation own.0 own.1

  -- and an operation that is in doubt still makes the same of it
  still_makes : {A : Type 0} (view : World → Configuration → A) → StaysSame view → view later.past.world later.config ≡ view course.past.world course.config → (it : ℕ × Doubt)
      → Contains course.past.doubts it → Contains later.past.doubts it
      → view (acted course.past.world it.1) (ticked course.config (Some it.1)) ≡ view (acted later.past.world it.1) (ticked later.config (Some it.1))
  still_makes view stays same it here there =
      stays course.past.world course.config later.past.world later.config it.1 (sym same) (sym same_rows) is.world.rows_rise will.world.rows_rise
      (All-contains (λ (d : ℕ × Doubt). Accepts course.past.world d.1) course.past.doubts it is.doubts.acceptable here)
      (All-contains (λ (d : ℕ × Doubt). Accepts later.past.world d.1) later.past.doubts it will.doubts.acceptable there)

  -- a store in which nothing was in doubt is so still
  settled_there : (store : ℕ) → store ≢ suc (suc number) → IsSettledAt course.past course.config store → IsSettledAt later.past later.config store
  settled_there store apart settled =
      All-from_each (λ (it : ℕ × Doubt). store_of later.config it.1 ≢ store) later.past.doubts (λ it has. by_case it (goes.among it has))
    where
      by_case : (it : ℕ × Doubt) → Contains course.past.doubts it ⊎ (store_of course.config it.1 ≡ suc (suc number)) → store_of later.config it.1 ≢ store
      by_case it (inl before) e =
          All-contains (λ (d : ℕ × Doubt). store_of course.config d.1 ≢ store) course.past.doubts it settled before (sym (same_store it.1) ∙ e)
      by_case it (inr own) e = apart (sym e ∙ (same_store it.1 ∙ own))

  map_on : {D : Type 0} (held : MapKept D) → course.past.commit ≡ None → KeepsMap course held → KeepsMap later held
  map_on held none keeps = record {
    number = keeps.number;
    told = keeps.told ∙ sym (ap told_map goes.config ∙ ticked_same told_map (λ it ticks. refl) course.config stood);
    in_doubt = IfSome_then held.doubt keeps.in_doubt (λ step some. absurd (no_plan course.past.commit _ none some));
  }

  same_names : told_names later.past.world ≡ told_names course.past.world
  same_names = seen names_view (λ what group own. leaves_names course.past.world course.config number what own)

  names_by : (step : NamesStep) → Any (λ it. NamesBy course.past.world step it.1) course.past.doubts → Any (λ it. NamesBy later.past.world step it.1) later.past.doubts
  names_by step any =
      let here : Contains course.past.doubts any.1 = (any.0, any.2, any.3) in
      let about : store_of course.config any.1.1 ≡ 1 = any.4.about course.config in
      let there = goes.kept any.1 here (λ e. omega (arith, about, e)) in (
        there.0,
        any.1,
        there.1,
        there.2,
        record {
          about = any.4.about;
          makes = ap (λ (names : SpelledNames). names_stepped names step) same_names ∙ (any.4.makes ∙ still_makes names_view names_stay same_names any.1 here there);
        },
      )

  names_on : {D : Type 0} (held : NamesKept D) → KeepsNames course held → KeepsNames later held
  names_on held keeps = record {
    number = keeps.number;
    told = keeps.told ∙ sym same_names;
    in_doubt = IfSome_then held.doubt keeps.in_doubt names_by;
    settled = λ none. settled_there 1 (λ e. omega (arith, e)) (keeps.settled none);
  }

  row_seen : (row : MapRow) → Contains course.config.rows row → row.server ≢ number → held_in later.past.world later.config row ≡ held_in course.past.world course.config row
  row_seen row there apart =
      seen (range_view row) (λ what group own.
      leaves_range course.past.world course.config row what is.config.map.tiles is.config.map.differ is.world.rows_rise group there
      (λ e. apart (let server = row.server in omega (arith, own, e))))

  changes_by : (other : ℕ) (step : RangeChange) → other ≢ number → Any (λ it. ChangesBy course.past course.config other step it.1) course.past.doubts
      → Any (λ it. ChangesBy later.past later.config other step it.1) later.past.doubts
  changes_by other step apart any =
      let here : Contains course.past.doubts any.1 = (any.0, any.2, any.3) in
      let about : store_of course.config any.1.1 ≡ suc (suc other) = any.4.about in
      let there = goes.kept any.1 here (λ e. apart (omega (arith, about, e))) in
      (there.0, any.1, there.1, there.2, record { about = same_store any.1.1 ∙ about; makes = All-from_each MakesRow later.config.rows (λ row has own. made here there row has own) })
    where
      MakesRow : MapRow → Type 0
      MakesRow row =
          row.server ≡ other → told_with (Some step) (held_in later.past.world later.config row) ≡ held_in (acted later.past.world any.1.1) (ticked later.config (Some any.1.1)) row

      made : Contains course.past.doubts any.1 → Contains later.past.doubts any.1 → (row : MapRow) → Contains later.config.rows row → MakesRow row
      made here there row has own =
          let before : Contains course.config.rows row = subst (λ (rows : List MapRow). Contains rows row) same_rows has in
          let same = row_seen row before (λ e. apart (sym own ∙ e)) in
          ap (told_with (Some step)) same
          ∙ (All-contains (λ (it : MapRow). it.server ≡ other → told_with (Some step) (held_in course.past.world course.config it) ≡ held_in (acted course.past.world any.1.1) (ticked course.config (Some any.1.1)) it)
          course.config.rows row any.4.makes before own
          ∙ still_makes (range_view row) (range_stays row) same any.1 here there)

  none_committed : {D T : Type 0} (other : ℕ) (server : ServerView D T) → IfSome later.past.commit (λ plan. HoldsRanges later.past (committed_by later.config plan) other server)
  none_committed other server = if_none (λ plan. HoldsRanges later.past (committed_by later.config plan) other server) later.past.commit goes.commit

  server_on : {D T : Type 0} (other : ℕ) (server : ServerView D T) → other ≢ number → KeepsServer course other server → KeepsServer later other server
  server_on other server apart keeps = record {
    number_is = keeps.number_is;
    ranges = record {
      held = All-from_each (λ row. row.server ≡ other → HoldsRow later.past later.config server.held row) later.config.rows (λ row has own.
          let before : Contains course.config.rows row = subst (λ (rows : List MapRow). Contains rows row) same_rows has in
          subst (λ (one : SpelledRange). IsSomeAnd (range_of server.held row.range) (λ marked. told_of marked ≡ one)) (sym (row_seen row before (λ e. apart (sym own ∙ e))))
          (All-contains (λ (it : MapRow). it.server ≡ other → HoldsRow course.past course.config server.held it) course.config.rows row keeps.ranges.held before own));
      in_doubt = IfSome_then server.doubt keeps.ranges.in_doubt (λ step any. changes_by other step apart any);
    };
    committed = none_committed other server;
    settled = λ none. settled_there (suc (suc other)) (λ e. apart (omega (arith, e))) (keeps.settled none);
  }

-- the service holds what the course has come to, where the server itself does
pub goes_on : {D T : Type 0} (course later : Course) (core : CoreView D T) (number : ℕ) (old new : ServerView D T) (stood : Option Doubt) → KeepsCourse course core → course.past.commit ≡ None
    → slice_get core.servers number ≡ Some old → IsCourse (length core.servers) later → Goes course later number stood → KeepsServer later number new → KeepsCourse later (with_server core number new)
goes_on course later core number old new stood keeps none here will goes own = record {
  is = subst (λ (servers : ℕ). IsCourse servers later) (sym (length-set core.servers number new)) will;
  map = map_on (length core.servers) course later number stood keeps.is will goes core.map none keeps.map;
  names = names_on (length core.servers) course later number stood keeps.is will goes core.names keeps.names;
  servers = set_each (KeepsServer later) core.servers number old new here own
      (λ other server apart there. server_on (length core.servers) course later number stood keeps.is will goes other server apart (keeps.servers other server there));
}
