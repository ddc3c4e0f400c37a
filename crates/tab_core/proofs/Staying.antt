-- A course that goes on by entries that suit it keeps what every course keeps.
use Rattle.std.proofs.Common.{◌≡◌, ◌≢◌, ℕ, ◌≤◌, ◌⊎◌, List, [], ◌∷◌, Bool, true, false, cond, not, ◌==◌, get_or, Contains, All, AllPairs, refl, sym, ap, ◌∙◌, subst, inl, inr, arith}
use Rattle.std.specs.Prelude.{Option, Some, None, Ok, Err, IfSome, IsTrue, find, option_map, unwrap_or}
use Rattle.std.proofs.lemmas.Bool.{eqb-false}
use Rattle.std.proofs.lemmas.Option.{none-some}
use Rattle.std.proofs.lemmas.List.Elements.{All-nil, All-cons, All-filter, All-contains}
use Rattle.std.proofs.lemmas.List.Kept.{AllPairs-cons, AllPairs-filter}
use Rattle.tab_keys.specs.Spans.{has}
use Rattle.tab_keys.specs.declared.keys.Key.{Key}
use Rattle.tab_rows.proofs.Lists.{AllPairs-head, AllPairs-tail}
use Rattle.tab_page.proofs.RisingLists.{Contains-nil, Contains-cons_cases}
use Rattle.tab_ops.specs.Groups.{ItemView, item_key, group_refusal}
use Rattle.tab_ops.specs.declared.groups.GroupRefused.TheVariants.{Empty}
use Rattle.tab_ops.specs.Changes.{group_keys}
use Rattle.tab_history.specs.World.{World, Floors}
use Rattle.tab_history.specs.Doubts.{Accepts, doubt_of, without_doubt, EachDoubt, AreOpen}
use Rattle.tab_history.specs.Legality.{acted, world_after, doubts_after, after, Legal}
use Rattle.tab_history.specs.Configurations.{MapRow, Configuration, row_with, next_tick_of, next_tick_at, ticked, ticked_in, opened_again, config_after}
use Rattle.tab_history.specs.Tilings.{TileKeys}
use Rattle.tab_history.specs.Ranges.{routed, HaveOwnRanges, IsNextTickIn, TicksServe}
use Rattle.tab_history.specs.declared.entries.Entry.{Entry}
use Rattle.tab_history.specs.declared.entries.Entry.TheVariants as entry
use Rattle.tab_history.specs.declared.entries.Doubt.{Doubt}
use Rattle.tab_history.specs.declared.entries.Doubt.TheVariants as doubt
use Rattle.tab_history.proofs.ConfigurationLaws.{one_row}
use Rattle.tab_history.proofs.DoubtLaws.{doubts_stay, found_holds}
use Rattle.tab_history.proofs.RangeLaws.{keys_here, ticked_routed, ticked-rows, next_tick_there, ticks_serve}
use Rattle.tab_history.proofs.WorldLaws.{worlds_stay}
use Rattle.tab_core.specs.Courses.{Course, IsCourse, IsMap, IsOfGroup, IsNotBefore, store_of, store_of_row}
use Rattle.tab_core.specs.Steps.{after_entry, after_entries, Suits, SuitsConfig, EachSuits}

-- ---- rows of a map

-- the row that has a key is the one that is found
row_of : (rows : List MapRow) (row : MapRow) (key : Key) → TileKeys rows → Contains rows row → IsTrue (has row.span key) → row_with rows key ≡ Some row
row_of rows row key tiles among inside =
    let one = one_row rows key tiles in
    one.found ∙ ap (λ (it : MapRow). Some it) (sym (one.only row among inside))

-- a group is routed to one of the rows
routed_to : (rows : List MapRow) (table : ℕ) (group : List ItemView) → TileKeys rows → group_refusal group ≡ None
    → (row : MapRow) × (routed rows (group_keys table group) ≡ Some row) × Contains rows row
unfolding group_refusal
routed_to rows table [] tiles allowed = absurd (none-some Empty (sym allowed))
routed_to rows table (first ∷ items) tiles allowed =
    let one = one_row rows (item_key table first) tiles in (one.row, one.found, one.among)

-- rows of one range are one row
same_range : (rows : List MapRow) (a b : MapRow) → HaveOwnRanges rows → Contains rows a → Contains rows b → a.range ≡ b.range → a ≡ b
same_range [] a b own here there e = absurd (Contains-nil a here)
same_range (first ∷ rows) a b own here there e =
    by_cases (same_range rows a b (AllPairs-tail R first rows own)) (Contains-cons_cases first a rows here) (Contains-cons_cases first b rows there)
  where
    R : MapRow → MapRow → Type 0
    R x y = x.range ≢ y.range

    apart : (other : MapRow) → Contains rows other → first.range ≢ other.range
    apart other among = All-contains (R first) rows other (AllPairs-head R first rows own) among

    by_cases : (Contains rows a → Contains rows b → a.range ≡ b.range → a ≡ b) → (first ≡ a) ⊎ Contains rows a → (first ≡ b) ⊎ Contains rows b → a ≡ b
    by_cases later (inl f) (inl g) = sym f ∙ g
    by_cases later (inl f) (inr g) = absurd (apart b g (ap (λ (it : MapRow). it.range) f ∙ e))
    by_cases later (inr f) (inl g) = absurd (apart a f (ap (λ (it : MapRow). it.range) g ∙ sym e))
    by_cases later (inr f) (inr g) = later f g e

-- ---- an operation about another store

-- a change leaves the next tick of a key of another range
next_tick_kept : (config : Configuration) (row own : MapRow) (table tick : ℕ) (group : List ItemView) (key : Key) → TileKeys config.rows → routed config.rows (group_keys table group) ≡ Some row
    → Contains config.rows own → own.range ≢ row.range → IsTrue (has own.span key)
    → next_tick_at (ticked config (Some (doubt.Change table group tick))) key ≡ next_tick_at config key
next_tick_kept config row own table tick group key tiles found among apart inside =
    ap (λ (rows : List MapRow). at_row later.next_ticks (row_with rows key)) (ticked-rows config table tick group)
    ∙ (ap (at_row later.next_ticks) here ∙ (next_tick_there config row table tick group own.range found apart ∙ sym (ap (at_row config.next_ticks) here)))
  where
    later : Configuration
    later = ticked config (Some (doubt.Change table group tick))

    at_row : List (ℕ × ℕ) → Option MapRow → ℕ
    at_row ticks it = unwrap_or (option_map (λ (row : MapRow). next_tick_of ticks row.range) it) 0

    here : row_with config.rows key ≡ Some own
    here = row_of config.rows own key tiles among inside

-- so a change in doubt about another store is not before its keys' next tick either
change_kept : (config : Configuration) (table tick : ℕ) (group : List ItemView) (other later : ℕ) (items : List ItemView) → TileKeys config.rows → HaveOwnRanges config.rows
    → group_refusal group ≡ None → group_refusal items ≡ None
    → store_of config (doubt.Change other items later) ≢ store_of config (doubt.Change table group tick)
    → IsNotBefore config (doubt.Change other items later) → IsNotBefore (ticked config (Some (doubt.Change table group tick))) (doubt.Change other items later)
change_kept config table tick group other later items tiles own allowed fine differ h =
    by_rows (routed_to config.rows table group tiles allowed) (routed_to config.rows other items tiles fine)
  where
    by_rows : (row : MapRow) × (routed config.rows (group_keys table group) ≡ Some row) × Contains config.rows row
        → (row : MapRow) × (routed config.rows (group_keys other items) ≡ Some row) × Contains config.rows row
        → IsNotBefore (ticked config (Some (doubt.Change table group tick))) (doubt.Change other items later)
    by_rows to from = λ n d within.
        subst (λ (next : ℕ). next ≤ later)
        (sym (next_tick_kept config to.0 from.0 table tick group (get_or (group_keys other items) n d) tiles to.1 from.2 apart (keys_here config.rows from.0 other items fine from.1 n d within)))
        (h n d within)
      where
        apart : from.0.range ≢ to.0.range
        apart e =
            let it : from.0 ≡ to.0 = same_range config.rows from.0 to.0 own from.2 to.2 e in
            differ (ap store_of_row from.1 ∙ (ap (λ (row : MapRow). store_of_row (Some row)) it ∙ sym (ap store_of_row to.1)))

not_before_kept : (config : Configuration) (operation other : Doubt) → TileKeys config.rows → HaveOwnRanges config.rows → IsOfGroup operation → IsOfGroup other
    → store_of config other ≢ store_of config operation → IsNotBefore config other → IsNotBefore (ticked config (Some operation)) other
not_before_kept config (doubt.Change table group tick) (doubt.Change other items later) tiles own allowed fine differ h =
    change_kept config table tick group other later items tiles own allowed.allowed fine.allowed differ h
not_before_kept config (doubt.Change table group tick) (doubt.Create name number) tiles own allowed fine differ h = tt
not_before_kept config (doubt.Change table group tick) (doubt.Drop name) tiles own allowed fine differ h = tt
not_before_kept config (doubt.Create name number) other tiles own allowed fine differ h = h
not_before_kept config (doubt.Drop name) other tiles own allowed fine differ h = h

-- an operation moves no other to another store
store_alike : (config other : Configuration) (it : Doubt) → other.rows ≡ config.rows → store_of other it ≡ store_of config it
store_alike config other (doubt.Change table group tick) e = ap (λ (rows : List MapRow). store_of_row (routed rows (group_keys table group))) e
store_alike config other (doubt.Create name table) e = refl
store_alike config other (doubt.Drop name) e = refl

rows_kept : (config : Configuration) (operation : Doubt) → (ticked config (Some operation)).rows ≡ config.rows
rows_kept config (doubt.Change table group tick) = ticked-rows config table tick group
rows_kept config (doubt.Create name table) = refl
rows_kept config (doubt.Drop name) = refl

-- and leaves a map
map_in : (servers : ℕ) (config : Configuration) (to : Option MapRow) (tick : ℕ) → IsMap servers config → IsMap servers (ticked_in config to tick)
map_in servers config None tick h = h
map_in servers config (Some row) tick h = record { tiles = h.tiles; differ = h.differ; given = h.given; kept = h.kept; servers_are = h.servers_are }

map_kept : (servers : ℕ) (config : Configuration) (operation : Doubt) → IsMap servers config → IsMap servers (ticked config (Some operation))
map_kept servers config (doubt.Change table group tick) h =
    subst (IsMap servers) (sym (ticked_routed config table tick group)) (map_in servers config (routed config.rows (group_keys table group)) tick h)
map_kept servers config (doubt.Create name table) h = h
map_kept servers config (doubt.Drop name) h = h

-- the next ticks serve on behind it
serve_kept : (world : World) (config : Configuration) (operation : Doubt) → TileKeys config.rows → HaveOwnRanges config.rows → IsOfGroup operation → Accepts world operation
    → TicksServe world.floors config → TicksServe (acted world operation).floors (ticked config (Some operation))
serve_kept world config (doubt.Change table group tick) tiles own allowed accepts h =
    let to = routed_to config.rows table group tiles allowed.allowed in
    ticks_serve world config to.0 table tick group tiles own h allowed.allowed to.1 accepts.1
serve_kept world config (doubt.Create name table) tiles own allowed accepts h = h
serve_kept world config (doubt.Drop name) tiles own allowed accepts h = h

-- ---- configurations

-- what a configuration owes floors and operations in doubt
abbrev Serves : ℕ → Floors → List (ℕ × Doubt) → Configuration → Type 0
Serves servers floors doubts config =
    IsMap servers config × TicksServe floors config × EachDoubt (IsNotBefore config) doubts
    × AllPairs (λ (a b : ℕ × Doubt). store_of config a.1 ≢ store_of config b.1) doubts

-- it serves on behind an operation that is about no store of those that are left
acted_on : (servers : ℕ) (world : World) (config : Configuration) (left : List (ℕ × Doubt)) (operation : Doubt) → EachDoubt IsOfGroup left → IsOfGroup operation → Accepts world operation
    → EachDoubt (λ other. store_of config other ≢ store_of config operation) left
    → Serves servers world.floors left config → Serves servers (acted world operation).floors left (ticked config (Some operation))
acted_on servers world config left operation groups group accepts alone h = (
  map_kept servers config operation h.0,
  serve_kept world config operation h.0.tiles h.0.differ group accepts h.1,
  λ n d within. not_before_kept config operation (get_or left n d).1 h.0.tiles h.0.differ group (groups n d within) (alone n d within) (h.2 n d within),
  λ i j d less within e. h.3 i j d less within (sym (same (get_or left i d).1) ∙ (e ∙ same (get_or left j d).1)),
)
  where
    same : (it : Doubt) → store_of (ticked config (Some operation)) it ≡ store_of config it
    same it = store_alike config (ticked config (Some operation)) it (rows_kept config operation)

-- so behind the one that a settled request stood with
settled_on : (servers : ℕ) (world : World) (config : Configuration) (left : List (ℕ × Doubt)) (stood : Option Doubt) → EachDoubt IsOfGroup left → IfSome stood IsOfGroup → IfSome stood (Accepts world)
    → IfSome stood (λ found. EachDoubt (λ other. store_of config other ≢ store_of config found) left)
    → Serves servers world.floors left config → Serves servers (world_after world stood).floors left (ticked config stood)
settled_on servers world config left None groups group accepts alone h = h
settled_on servers world config left (Some found) groups group accepts alone h = acted_on servers world config left found groups group accepts alone h

-- what is owed depends on the rows and the next ticks alone
not_before_alike : (config other : Configuration) (it : Doubt) → other.rows ≡ config.rows → other.next_ticks ≡ config.next_ticks → IsNotBefore config it → IsNotBefore other it
not_before_alike config other (doubt.Change table group tick) e f h = λ n d within. subst (λ (next : ℕ). next ≤ tick) (sym (same (get_or (group_keys table group) n d))) (h n d within)
  where
    same : (key : Key) → next_tick_at other key ≡ next_tick_at config key
    same key = λ i. unwrap_or (option_map (λ (row : MapRow). next_tick_of (f i) row.range) (row_with (e i) key)) 0
not_before_alike config other (doubt.Create name table) e f h = tt
not_before_alike config other (doubt.Drop name) e f h = tt

serves_alike : (servers : ℕ) (floors : Floors) (doubts : List (ℕ × Doubt)) (config other : Configuration) → other.rows ≡ config.rows → other.next_ticks ≡ config.next_ticks → IsMap servers other
    → Serves servers floors doubts config → Serves servers floors doubts other
serves_alike servers floors doubts config other e f is h = (
  is,
  subst (λ (rows : List MapRow). All (λ row. IsNextTickIn floors row.span (next_tick_of other.next_ticks row.range)) rows) (sym e)
      (subst (λ (ticks : List (ℕ × ℕ)). All (λ row. IsNextTickIn floors row.span (next_tick_of ticks row.range)) config.rows) (sym f) h.1),
  λ n d within. not_before_alike config other (get_or doubts n d).1 e f (h.2 n d within),
  λ i j d less within g. h.3 i j d less within (sym (store_alike config other (get_or doubts i d).1 e) ∙ (g ∙ store_alike config other (get_or doubts j d).1 e)),
)

-- an opening begins over the same map
serves_opened : (servers : ℕ) (floors : Floors) (doubts : List (ℕ × Doubt)) (config : Configuration) (stopped : Bool) → Serves servers floors doubts config
    → Serves servers floors doubts (opened_again config stopped)
serves_opened servers floors doubts config true h =
    serves_alike servers floors doubts config (opened_again config true) refl refl
    (record { tiles = h.0.tiles; differ = h.0.differ; given = h.0.given; kept = omega arith; servers_are = h.0.servers_are }) h
serves_opened servers floors doubts config false h = h

-- and a stop leaves it
serves_stopped : (servers : ℕ) (floors : Floors) (doubts : List (ℕ × Doubt)) (config : Configuration) → Serves servers floors doubts config
    → Serves servers floors doubts (record config { stopped = true })
serves_stopped servers floors doubts config h =
    serves_alike servers floors doubts config (record config { stopped = true }) refl refl
    (record { tiles = h.0.tiles; differ = h.0.differ; given = h.0.given; kept = h.0.kept; servers_are = h.0.servers_are }) h

-- ---- the doubt of a request

-- it is apart from those that are left, in what every two of them are
pub found_differs : (R : Doubt → Doubt → Type 0) → ((a b : Doubt) → R a b → R b a) → (doubts : List (ℕ × Doubt)) (ask : ℕ) → AllPairs (λ (a b : ℕ × Doubt). R a.1 b.1) doubts
    → IfSome (doubt_of doubts ask) (λ found. EachDoubt (λ other. R other found) (without_doubt doubts ask))
unfolding doubt_of
found_differs R symm [] ask h = tt
found_differs R symm (first ∷ doubts) ask h =
    by_test (found_differs R symm doubts ask (AllPairs-tail Pair first doubts h)) (found_holds (R first.1) doubts ask (AllPairs-head Pair first doubts h)) (first.0 == ask)
  where
    Pair : ℕ × Doubt → ℕ × Doubt → Type 0
    Pair a b = R a.1 b.1

    left : List (ℕ × Doubt)
    left = without_doubt doubts ask

    one_more : (found : Option Doubt) → IfSome found (λ it. EachDoubt (λ other. R other it) left) → IfSome found (R first.1) → IfSome found (λ it. EachDoubt (λ other. R other it) (first ∷ left))
    one_more None rest apart = tt
    one_more (Some found) rest apart = All-cons (λ (it : ℕ × Doubt). R it.1 found) first left apart rest

    by_test : IfSome (option_map (λ (it : ℕ × Doubt). it.1) (find (λ it. it.0 == ask) doubts)) (λ found. EachDoubt (λ other. R other found) left)
        → IfSome (option_map (λ (it : ℕ × Doubt). it.1) (find (λ it. it.0 == ask) doubts)) (R first.1) → (t : Bool)
        → IfSome (option_map (λ (it : ℕ × Doubt). it.1) (cond t (Some first) (find (λ it. it.0 == ask) doubts))) (λ found. EachDoubt (λ other. R other found) (cond (not t) (first ∷ left) left))
    by_test rest apart true = λ n d within. symm first.1 (get_or left n d).1 (All-filter (λ (it : ℕ × Doubt). not (it.0 == ask)) (λ it. R first.1 it.1) doubts (AllPairs-head Pair first doubts h) n d within)
    by_test rest apart false = one_more (option_map (λ (it : ℕ × Doubt). it.1) (find (λ it. it.0 == ask) doubts)) rest apart

-- a request without a doubt is that of none
none_asked : (doubts : List (ℕ × Doubt)) (ask : ℕ) → doubt_of doubts ask ≡ None → All (λ (it : ℕ × Doubt). ask ≢ it.0) doubts
unfolding doubt_of
none_asked [] ask h = All-nil (λ (it : ℕ × Doubt). ask ≢ it.0)
none_asked (first ∷ doubts) ask h = by_test (none_asked doubts ask) (first.0 == ask) refl h
  where
    by_test : (option_map (λ (it : ℕ × Doubt). it.1) (find (λ it. it.0 == ask) doubts) ≡ None → All (λ (it : ℕ × Doubt). ask ≢ it.0) doubts) → (t : Bool) → (first.0 == ask) ≡ t
        → option_map (λ (it : ℕ × Doubt). it.1) (cond t (Some first) (find (λ it. it.0 == ask) doubts)) ≡ None → All (λ (it : ℕ × Doubt). ask ≢ it.0) (first ∷ doubts)
    by_test rest true e k = absurd (none-some first.1 (sym k))
    by_test rest false e k = All-cons (λ (it : ℕ × Doubt). ask ≢ it.0) first doubts (λ same. eqb-false first.0 ask e (sym same)) (rest k)

-- ---- one entry

-- the groups in doubt are groups, and no two are of one request
abbrev AreAsked : List (ℕ × Doubt) → Type 0
AreAsked doubts = EachDoubt IsOfGroup doubts × AllPairs (λ (a b : ℕ × Doubt). a.0 ≢ b.0) doubts

without_asked : (doubts : List (ℕ × Doubt)) (ask : ℕ) → AreAsked doubts → AreAsked (without_doubt doubts ask)
without_asked doubts ask h = (
  All-filter (λ (it : ℕ × Doubt). not (it.0 == ask)) (λ it. IsOfGroup it.1) doubts h.0,
  AllPairs-filter (λ (a b : ℕ × Doubt). a.0 ≢ b.0) (λ (it : ℕ × Doubt). not (it.0 == ask)) doubts h.1,
)

asked_after : (servers : ℕ) (course : Course) (entry : Entry) → SuitsConfig servers course entry → AreAsked course.past.doubts → AreAsked (doubts_after course.past.doubts entry)
asked_after servers course (entry.Maybe ask now what) suits h = (
  All-cons (λ (it : ℕ × Doubt). IsOfGroup it.1) (ask, what) course.past.doubts suits.0 h.0,
  AllPairs-cons (λ (a b : ℕ × Doubt). a.0 ≢ b.0) (ask, what) course.past.doubts (none_asked course.past.doubts ask suits.3) h.1,
)
asked_after servers course (entry.Settled ask stood) suits h = without_asked course.past.doubts ask h
asked_after servers course (entry.Bounds bounds) suits h = h
asked_after servers course (entry.Resolve ask name table) suits h = h
asked_after servers course (entry.Get ask table pk rk found) suits h = h
asked_after servers course (entry.Page ask table options page) suits h = h
asked_after servers course (entry.Change ask now table group result) suits h = h
asked_after servers course (entry.Create ask name result) suits h = h
asked_after servers course (entry.Drop ask name stood) suits h = h
asked_after servers course (entry.List ask from top names next) suits h = h
asked_after servers course (entry.Denied ask why) suits h = h
asked_after servers course (entry.Turn plan turn) suits h = h
asked_after servers course (entry.Refused why plan) suits h = h
asked_after servers course entry.Stopped suits h = h

-- those that are left when a request is settled
serves_left : (servers : ℕ) (floors : Floors) (doubts : List (ℕ × Doubt)) (config : Configuration) (ask : ℕ) → Serves servers floors doubts config
    → Serves servers floors (without_doubt doubts ask) config
serves_left servers floors doubts config ask h = (
  h.0,
  h.1,
  All-filter (λ (it : ℕ × Doubt). not (it.0 == ask)) (λ it. IsNotBefore config it.1) doubts h.2,
  AllPairs-filter (λ (a b : ℕ × Doubt). store_of config a.1 ≢ store_of config b.1) (λ (it : ℕ × Doubt). not (it.0 == ask)) doubts h.3,
)

serves_settled : (servers : ℕ) (world : World) (doubts : List (ℕ × Doubt)) (config : Configuration) (ask : ℕ) → EachDoubt IsOfGroup doubts → EachDoubt (Accepts world) doubts
    → Serves servers world.floors doubts config
    → Serves servers (world_after world (doubt_of doubts ask)).floors (without_doubt doubts ask) (ticked config (doubt_of doubts ask))
serves_settled servers world doubts config ask groups accepts h =
    settled_on servers world config (without_doubt doubts ask) (doubt_of doubts ask)
    (All-filter (λ (it : ℕ × Doubt). not (it.0 == ask)) (λ it. IsOfGroup it.1) doubts groups) (found_holds IsOfGroup doubts ask groups) (found_holds (Accepts world) doubts ask accepts)
    (found_differs (λ a b. store_of config a ≢ store_of config b) (λ a b apart e. apart (sym e)) doubts ask h.3)
    (serves_left servers world.floors doubts config ask h)

-- one more is in doubt
serves_with : (servers : ℕ) (floors : Floors) (doubts : List (ℕ × Doubt)) (config : Configuration) (ask : ℕ) (what : Doubt) → IsNotBefore config what
    → EachDoubt (λ other. store_of config other ≢ store_of config what) doubts → Serves servers floors doubts config → Serves servers floors ((ask, what) ∷ doubts) config
serves_with servers floors doubts config ask what from alone h = (
  h.0,
  h.1,
  All-cons (λ (it : ℕ × Doubt). IsNotBefore config it.1) (ask, what) doubts from h.2,
  AllPairs-cons (λ (a b : ℕ × Doubt). store_of config a.1 ≢ store_of config b.1) (ask, what) doubts (λ n d within e. alone n d within (sym e)) h.3,
)

serves_after : (servers : ℕ) (course : Course) (entry : Entry) → EachDoubt IsOfGroup course.past.doubts → AreOpen course.past.world course.past.doubts → Suits servers course entry
    → Serves servers course.past.world.floors course.past.doubts course.config
    → Serves servers (after course.past entry).world.floors (after course.past entry).doubts (config_after course.config course.past.doubts entry)
serves_after servers course (entry.Change ask now table group (Ok tick)) groups open_ones suits h =
    acted_on servers course.past.world course.config course.past.doubts (doubt.Change table group tick) groups suits.1.0
    (suits.0.1, suits.0.2.from_floors) suits.1.2 h
serves_after servers course (entry.Change ask now table group (Err refusal)) groups open_ones suits h = h
serves_after servers course (entry.Create ask name (Some table)) groups open_ones suits h = h
serves_after servers course (entry.Create ask name None) groups open_ones suits h = h
serves_after servers course (entry.Drop ask name true) groups open_ones suits h = h
serves_after servers course (entry.Drop ask name false) groups open_ones suits h = h
serves_after servers course (entry.Settled ask true) groups open_ones suits h =
    serves_settled servers course.past.world course.past.doubts course.config ask groups open_ones.acceptable h
serves_after servers course (entry.Settled ask false) groups open_ones suits h = serves_left servers course.past.world.floors course.past.doubts course.config ask h
serves_after servers course (entry.Maybe ask now what) groups open_ones suits h =
    serves_with servers course.past.world.floors course.past.doubts course.config ask what suits.1.1 suits.1.2 h
serves_after servers course (entry.Bounds bounds) groups open_ones suits h =
    serves_opened servers course.past.world.floors course.past.doubts course.config course.config.stopped h
serves_after servers course (entry.Turn plan turn) groups open_ones suits h = (suits.1.map, suits.1.ticks, suits.1.ticks_next, suits.1.stores_differ)
serves_after servers course entry.Stopped groups open_ones suits h = serves_stopped servers course.past.world.floors course.past.doubts course.config h
serves_after servers course (entry.Resolve ask name table) groups open_ones suits h = h
serves_after servers course (entry.Get ask table pk rk found) groups open_ones suits h = h
serves_after servers course (entry.Page ask table options page) groups open_ones suits h = h
serves_after servers course (entry.List ask from top names next) groups open_ones suits h = h
serves_after servers course (entry.Denied ask why) groups open_ones suits h = h
serves_after servers course (entry.Refused why plan) groups open_ones suits h = h

-- a course is one behind an entry that suits it
stays : (servers : ℕ) (course : Course) (entry : Entry) → IsCourse servers course → Suits servers course entry → IsCourse servers (after_entry course entry)
stays servers course entry is suits =
    let legal : Legal course.past (entry ∷ []) = record { doubts = is.doubts; steps = (suits.0, tt) } in
    let worlds = worlds_stay course.past (entry ∷ []) is.world is.tables legal in
    let asked = asked_after servers course entry suits.1 (is.groups, is.asks_differ) in
    let serves = serves_after servers course entry is.groups is.doubts suits (is.config.map, is.config.ticks, is.config.ticks_next, is.config.stores_differ) in
    record {
      world = worlds.0;
      doubts = doubts_stay course.past (entry ∷ []) legal;
      tables = worlds.1;
      groups = asked.0;
      asks_differ = asked.1;
      config = record { map = serves.0; ticks = serves.1; ticks_next = serves.2; stores_differ = serves.3 };
      pending_differ = is.pending_differ;
    }

-- ---- several entries

pub courses_stay : (servers : ℕ) (course : Course) (entries : List Entry) → IsCourse servers course → EachSuits servers course entries → IsCourse servers (after_entries course entries)
courses_stay servers course [] is suits = is
courses_stay servers course (entry ∷ entries) is suits = courses_stay servers (after_entry course entry) entries (stays servers course entry is suits.0) suits.1
