-- An opening tells of each operation in doubt whether it stands, by what the disks of its store spell.
use Rattle.std.proofs.Common.{◌≡◌, ◌≢◌, ℕ, suc, ◌⊎◌, List, [], ◌∷◌, Bool, true, false, cond, ◌==◌, not, Contains, AllPairs, refl, sym, ap, ◌∙◌, subst, inl, inr, arith}
use Rattle.std.specs.Prelude.{Option, Some, is_some, find, option_map}
use Rattle.std.proofs.lemmas.Bool.{true≢false, eqb-true, eqb-false, ne_eqb, eq-eqb}
use Rattle.std.proofs.lemmas.List.Elements.{All-contains, All-filter}
use Rattle.std.proofs.lemmas.List.Kept.{AllPairs-filter}
use Rattle.tab_rows.specs.Rows.{AreRising}
use Rattle.tab_rows.proofs.Lists.{AllPairs-head, AllPairs-tail}
use Rattle.tab_ops.specs.Groups.{ItemView}
use Rattle.tab_ops.specs.Changes.{group_keys}
use Rattle.tab_page.proofs.RisingLists.{Contains-here, Contains-there, Contains-cons_cases, Contains-nil, Contains-filter, Contains-filtered}
use Rattle.tab_codec.specs.declared.frames.Frame.{Frame}
use Rattle.tab_history.specs.World.{World}
use Rattle.tab_history.specs.Doubts.{Accepts, AreOpen, EachDoubt, doubt_of, without_doubt}
use Rattle.tab_history.specs.Legality.{State, world_after}
use Rattle.tab_history.specs.Configurations.{MapRow, Configuration, ticked}
use Rattle.tab_history.specs.Tilings.{TileKeys}
use Rattle.tab_history.specs.Ranges.{HaveOwnRanges, routed}
use Rattle.tab_history.specs.declared.entries.Entry.TheVariants as entry
use Rattle.tab_history.specs.declared.entries.Doubt.{Doubt}
use Rattle.tab_history.specs.declared.entries.Doubt.TheVariants as doubt
use Rattle.tab_history.proofs.DoubtLaws.{doubts_stay}
use Rattle.tab_history.proofs.HistoryLaws.{acted-rising}
use Rattle.tab_server.specs.Replays.{spelled_range}
use Rattle.tab_master.specs.Spelled.{SpelledMap, spelled_names}
use Rattle.tab_core.specs.Courses.{Course, IsOfGroup, store_of, store_of_row}
use Rattle.tab_core.specs.Points.{SpellsMap}
use Rattle.tab_core.specs.Steps.{after_entry, after_entries}
use Rattle.tab_core.specs.Openings.{settled_entries}
use Rattle.tab_core.proofs.Sorting.{same_by, firsts}
use Rattle.tab_core.proofs.Views.{if_stood, left_by, ticked_same, ticked_rows, Leaves, StaysSame, PointOf, keeps_point, tells_stood, names_view, names_stay, range_view, range_stays, Routes, routes, leaves_there, leaves_range}

-- what stays of a course while its doubts end
pub record Midway (past : State) (config : Configuration) : Type 0 where
  pub rising : AreRising past.world.rows
  pub doubts : AreOpen past.world past.doubts
  pub groups : EachDoubt IsOfGroup past.doubts
  pub asks_differ : AllPairs (λ a b. a.0 ≢ b.0) past.doubts
  pub stores_differ : AllPairs (λ a b. store_of config a.1 ≢ store_of config b.1) past.doubts
  pub tiles : TileKeys config.rows
  pub differ : HaveOwnRanges config.rows

-- the frames that were read meet its points, and spell its map
pub record Meets (past : State) (config : Configuration) (frames : ℕ → List Frame) : Type 0 where
  pub map : SpellsMap config (frames 0)
  pub names : PointOf names_view (spelled_names (frames 1)) past config
  pub ranges : (row : MapRow) → Contains config.rows row → PointOf (range_view row) (spelled_range (frames (suc (suc row.server))) row.range) past config

-- ---- the doubt of a request

-- it is found, where no two are of one request
pub found_of : (doubts : List (ℕ × Doubt)) (it : ℕ × Doubt) → AllPairs (λ a b. a.0 ≢ b.0) doubts → Contains doubts it → doubt_of doubts it.0 ≡ Some it.1
unfolding doubt_of
found_of [] it differ has = absurd (Contains-nil it has)
found_of (first ∷ doubts) it differ has =
    by_test (found_of doubts it (AllPairs-tail (λ (a b : ℕ × Doubt). a.0 ≢ b.0) first doubts differ)) (first.0 == it.0) refl (Contains-cons_cases first it doubts has)
  where
    by_test : (Contains doubts it → option_map (λ (d : ℕ × Doubt). d.1) (find (λ d. d.0 == it.0) doubts) ≡ Some it.1) → (t : Bool) → (first.0 == it.0) ≡ t → (first ≡ it) ⊎ Contains doubts it
        → option_map (λ (d : ℕ × Doubt). d.1) (cond t (Some first) (find (λ d. d.0 == it.0) doubts)) ≡ Some it.1
    by_test rest true e among = ap (λ (d : ℕ × Doubt). Some d.1) (same_by (λ (d : ℕ × Doubt). d.0) (first ∷ doubts) first it differ (Contains-here first doubts) has (eqb-true first.0 it.0 e))
    by_test rest false e (inl same) = absurd (eqb-false first.0 it.0 e (ap (λ (d : ℕ × Doubt). d.0) same))
    by_test rest false e (inr later) = rest later

-- ---- behind one doubt

-- the store that an operation is about depends on the rows alone
pub store_same : (config other : Configuration) (what : Doubt) → config.rows ≡ other.rows → store_of config what ≡ store_of other what
store_same config other (doubt.Change table group tick) same = ap (λ (rows : List MapRow). store_of_row (routed rows (group_keys table group))) same
store_same config other (doubt.Create name table) same = refl
store_same config other (doubt.Drop name) same = refl

left_rising : (world : World) (what : Doubt) (stood : Bool) → Accepts world what → AreRising world.rows → AreRising (world_after world (if_stood stood what)).rows
left_rising world what true accepts rising = acted-rising world what accepts rising
left_rising world what false accepts rising = rising

left_open : (past : State) (ask : ℕ) (what : Doubt) (stood : Bool) → AreOpen past.world past.doubts → doubt_of past.doubts ask ≡ Some what
    → AreOpen (world_after past.world (if_stood stood what)) (without_doubt past.doubts ask)
left_open past ask what true doubts found =
    subst (λ (operation : Option Doubt). AreOpen (world_after past.world operation) (without_doubt past.doubts ask)) found
    (doubts_stay past (entry.Settled ask true ∷ []) (record { doubts = doubts; steps = (ap (λ (operation : Option Doubt). is_some operation) found, tt) }))
left_open past ask what false doubts found =
    doubts_stay past (entry.Settled ask false ∷ []) (record { doubts = doubts; steps = (ap (λ (operation : Option Doubt). is_some operation) found, tt) })

pub midway_after : (past : State) (config : Configuration) (it : ℕ × Doubt) (stood : Bool) → Midway past config → Contains past.doubts it
    → Midway (left_by past it.0 (if_stood stood it.1)) (ticked config (if_stood stood it.1))
midway_after past config it stood midway has =
    let is_left = λ (d : ℕ × Doubt). not (d.0 == it.0) in
    let same = ticked_rows config (if_stood stood it.1) in
    record {
      rising = left_rising past.world it.1 stood (All-contains (λ (d : ℕ × Doubt). Accepts past.world d.1) past.doubts it midway.doubts.acceptable has) midway.rising;
      doubts = left_open past it.0 it.1 stood midway.doubts (found_of past.doubts it midway.asks_differ has);
      groups = All-filter is_left (λ (d : ℕ × Doubt). IsOfGroup d.1) past.doubts midway.groups;
      asks_differ = AllPairs-filter (λ (a b : ℕ × Doubt). a.0 ≢ b.0) is_left past.doubts midway.asks_differ;
      stores_differ = λ i j d less within e.
          AllPairs-filter (λ (a b : ℕ × Doubt). store_of config a.1 ≢ store_of config b.1) is_left past.doubts midway.stores_differ i j d less within
          (sym (store_same (ticked config (if_stood stood it.1)) config _ same) ∙ (e ∙ store_same (ticked config (if_stood stood it.1)) config _ same));
      tiles = subst (λ (rows : List MapRow). TileKeys rows) (sym same) midway.tiles;
      differ = subst (λ (rows : List MapRow). HaveOwnRanges rows) (sym same) midway.differ;
    }

abbrev map_view : Configuration → SpelledMap
map_view config = record { next_range = config.kept_range; next_plan = config.kept_plan; rows = config.rows }

map_stays : (config : Configuration) (operation : Option Doubt) (frames : List Frame) → SpellsMap config frames → SpellsMap (ticked config operation) frames
map_stays config operation frames spelled = spelled ∙ ap (λ (map : SpelledMap). Some map) (sym (ticked_same map_view (λ it ticks. refl) config operation))

-- an operation about no name leaves the names
about_names : (config : Configuration) (what : Doubt) → (store_of config what ≡ 1) ⊎ ((world : World) → Leaves names_view world config what)
about_names config (doubt.Change table group tick) = inr (λ world. refl)
about_names config (doubt.Create name table) = inl refl
about_names config (doubt.Drop name) = inl refl

module _ (past : State) (config : Configuration) (frames : ℕ → List Frame) (ask : ℕ) (midway : Midway past config) (meets : Meets past config frames) where
  -- what a doubt that ends leaves to be met
  abbrev Met : Doubt → Bool → Type 0
  Met what stood = Meets (left_by past ask (if_stood stood what)) (ticked config (if_stood stood what)) frames

  only : (what : Doubt) → Contains past.doubts (ask, what) → (it : ℕ × Doubt) → Contains past.doubts it → it.0 ≡ ask → it.1 ≡ what
  only what has it among own = ap (λ (d : ℕ × Doubt). d.1) (same_by (λ (d : ℕ × Doubt). d.0) past.doubts it (ask, what) midway.asks_differ among has own)

  in_store : (what : Doubt) → Contains past.doubts (ask, what) → (it : ℕ × Doubt) → Contains past.doubts it → store_of config it.1 ≡ store_of config what → it.1 ≡ what
  in_store what has it among same = ap (λ (d : ℕ × Doubt). d.1) (same_by (λ (d : ℕ × Doubt). store_of config d.1) past.doubts it (ask, what) midway.stores_differ among has same)

  is_group : (it : ℕ × Doubt) → Contains past.doubts it → IsOfGroup it.1
  is_group it among = All-contains (λ (d : ℕ × Doubt). IsOfGroup d.1) past.doubts it midway.groups among

  -- what is seen and left by the doubt is met as before
  kept : {A : Type 0} (view : World → Configuration → A) (read : Option A) (what : Doubt) (stood : Bool) → Contains past.doubts (ask, what) → StaysSame view → Leaves view past.world config what
      → PointOf view read past config → PointOf view read (left_by past ask (if_stood stood what)) (ticked config (if_stood stood what))
  kept view read what stood has stays leaves point =
      let behind = midway_after past config (ask, what) stood midway has in
      keeps_point view read past config ask what stood stays midway.rising behind.rising midway.doubts behind.doubts (only what has) leaves point

  range_kept : (row : MapRow) (what : Doubt) (stood : Bool) → Contains past.doubts (ask, what) → Contains config.rows row → Leaves (range_view row) past.world config what
      → PointOf (range_view row) (spelled_range (frames (suc (suc row.server))) row.range) (left_by past ask (if_stood stood what)) (ticked config (if_stood stood what))
  range_kept row what stood has among leaves =
      kept (range_view row) (spelled_range (frames (suc (suc row.server))) row.range) what stood has (range_stays row) leaves (meets.ranges row among)

  -- ---- an operation about names

  settles_named : (what : Doubt) → Contains past.doubts (ask, what) → store_of config what ≡ 1 → (stood : Bool) × Met what stood
  settles_named what has own = (told.0, met told.0 told.1)
    where
      by_names : (it : ℕ × Doubt) → Contains past.doubts it → (store_of config it.1 ≡ 1) ⊎ ((world : World) → Leaves names_view world config it.1) → (it.1 ≡ what) ⊎ Leaves names_view past.world config it.1
      by_names it among (inl named) = inl (in_store what has it among (named ∙ sym own))
      by_names it among (inr leaves) = inr (leaves past.world)

      told : (stood : Bool) × (spelled_names (frames 1) ≡ Some (names_view (world_after past.world (if_stood stood what)) (ticked config (if_stood stood what))))
      told = tells_stood names_view (spelled_names (frames 1)) past config what (λ it among. by_names it among (about_names config it.1)) meets.names

      apart : (row : MapRow) → store_of config what ≡ suc (suc row.server) → ⊥
      apart row e = let server = row.server in omega (arith, own, e)

      met : (stood : Bool) → spelled_names (frames 1) ≡ Some (names_view (world_after past.world (if_stood stood what)) (ticked config (if_stood stood what))) → Met what stood
      met stood spelled = record {
        map = map_stays config (if_stood stood what) (frames 0) meets.map;
        names = inl spelled;
        ranges = λ row among.
            let there : Contains config.rows row = subst (λ (rows : List MapRow). Contains rows row) (ticked_rows config (if_stood stood what)) among in
            range_kept row what stood has there (leaves_range past.world config row what midway.tiles midway.differ midway.rising (is_group (ask, what) has) there (apart row));
      }

  -- ---- a change

  settles_change : (table tick : ℕ) (group : List ItemView) → Contains past.doubts (ask, doubt.Change table group tick) → (stood : Bool) × Met (doubt.Change table group tick) stood
  settles_change table tick group has = (told.0, met told.0 told.1)
    where
      what : Doubt
      what = doubt.Change table group tick

      to : Routes config.rows table group
      to = routes config.rows table group midway.tiles (is_group (ask, what) has).allowed

      at : store_of config what ≡ suc (suc to.row.server)
      at = ap store_of_row to.found

      by_store : (it : ℕ × Doubt) → Contains past.doubts it → (t : Bool) → (store_of config it.1 == suc (suc to.row.server)) ≡ t → (it.1 ≡ what) ⊎ Leaves (range_view to.row) past.world config it.1
      by_store it among true e = inl (in_store what has it among (eqb-true (store_of config it.1) (suc (suc to.row.server)) e ∙ sym at))
      by_store it among false e =
          inr (leaves_range past.world config to.row it.1 midway.tiles midway.differ midway.rising (is_group it among) to.among (eqb-false (store_of config it.1) (suc (suc to.row.server)) e))

      told : (stood : Bool)
          × (spelled_range (frames (suc (suc to.row.server))) to.row.range ≡ Some (range_view to.row (world_after past.world (if_stood stood what)) (ticked config (if_stood stood what))))
      told =
          tells_stood (range_view to.row) (spelled_range (frames (suc (suc to.row.server))) to.row.range) past config what (λ it among. by_store it among (store_of config it.1 == suc (suc to.row.server)) refl)
          (meets.ranges to.row to.among)

      by_range : (stood : Bool) → spelled_range (frames (suc (suc to.row.server))) to.row.range ≡ Some (range_view to.row (world_after past.world (if_stood stood what)) (ticked config (if_stood stood what)))
          → (row : MapRow) → Contains config.rows row → (t : Bool) → (row.range == to.row.range) ≡ t
          → PointOf (range_view row) (spelled_range (frames (suc (suc row.server))) row.range) (left_by past ask (if_stood stood what)) (ticked config (if_stood stood what))
      by_range stood spelled row there true e =
          subst (λ (it : MapRow). PointOf (range_view it) (spelled_range (frames (suc (suc it.server))) it.range) (left_by past ask (if_stood stood what)) (ticked config (if_stood stood what)))
          (same_by (λ (it : MapRow). it.range) config.rows to.row row midway.differ to.among there (sym (eqb-true row.range to.row.range e))) (inl spelled)
      by_range stood spelled row there false e =
          range_kept row what stood has there
          (leaves_there past.world config to.row row table tick group midway.tiles midway.rising (is_group (ask, what) has).allowed to.found there (eqb-false row.range to.row.range e))

      met : (stood : Bool) → spelled_range (frames (suc (suc to.row.server))) to.row.range ≡ Some (range_view to.row (world_after past.world (if_stood stood what)) (ticked config (if_stood stood what)))
          → Met what stood
      met stood spelled = record {
        map = map_stays config (if_stood stood what) (frames 0) meets.map;
        names = kept names_view (spelled_names (frames 1)) what stood has names_stay refl meets.names;
        ranges = λ row among.
            by_range stood spelled row (subst (λ (rows : List MapRow). Contains rows row) (ticked_rows config (if_stood stood what)) among) (row.range == to.row.range) refl;
      }

  -- a doubt ends as its store was read, and the frames meet what is left
  pub settles_one : (what : Doubt) → Contains past.doubts (ask, what) → (stood : Bool) × Met what stood
  settles_one (doubt.Change table group tick) has = settles_change table tick group has
  settles_one (doubt.Create name table) has = settles_named (doubt.Create name table) has refl
  settles_one (doubt.Drop name) has = settles_named (doubt.Drop name) has refl

-- ---- all doubts

abbrev pub settled_course : Course → ℕ → Option Doubt → Course
settled_course course ask operation = record course { past = left_by course.past ask operation; config = ticked course.config operation }

pub entry_is : (course : Course) (ask : ℕ) (what : Doubt) (stood : Bool) → doubt_of course.past.doubts ask ≡ Some what
    → after_entry course (entry.Settled ask stood) ≡ settled_course course ask (if_stood stood what)
entry_is course ask what true found = ap (λ (operation : Option Doubt). settled_course course ask operation) found
entry_is course ask what false found = refl

-- each of the doubts told of, behind which none is left
pub record Settles (course : Course) (frames : ℕ → List Frame) (doubts : List (ℕ × Doubt)) : Type 0 where
  pub settled : List ((ℕ × Doubt) × Bool)
  pub are : firsts settled ≡ doubts
  pub none : (after_entries course (settled_entries settled)).past.doubts ≡ []
  pub meets : Meets (after_entries course (settled_entries settled)).past (after_entries course (settled_entries settled)).config frames

-- a list without elements
pub none_in : {X : Type 0} (xs : List X) → ((x : X) → Contains xs x → ⊥) → xs ≡ []
none_in [] none = refl
none_in (x ∷ xs) none = absurd (none x (Contains-here x xs))

-- what is left of the doubts when the first of a list has ended
left_there : (doubts rest : List (ℕ × Doubt)) (it : ℕ × Doubt) → AllPairs (λ a b. a.0 ≢ b.0) (it ∷ rest) → ((z : ℕ × Doubt) → Contains (it ∷ rest) z → Contains doubts z)
    → (z : ℕ × Doubt) → Contains rest z → Contains (without_doubt doubts it.0) z
left_there doubts rest it differ there z has =
    let apart : it.0 ≢ z.0 = All-contains (λ (d : ℕ × Doubt). it.0 ≢ d.0) rest z (AllPairs-head (λ (a b : ℕ × Doubt). a.0 ≢ b.0) it rest differ) has in
    Contains-filter (λ (d : ℕ × Doubt). not (d.0 == it.0)) doubts z (there z (Contains-there it z rest has)) (ap not (ne_eqb z.0 it.0 (λ e. apart (sym e))))

left_here : (doubts rest : List (ℕ × Doubt)) (it : ℕ × Doubt) → ((z : ℕ × Doubt) → Contains doubts z → Contains (it ∷ rest) z) → (z : ℕ × Doubt) → Contains (without_doubt doubts it.0) z → Contains rest z
left_here doubts rest it here z has = by_cases (Contains-filtered (λ (d : ℕ × Doubt). not (d.0 == it.0)) doubts z has)
  where
    by_first : (it ≡ z) ⊎ Contains rest z → not (z.0 == it.0) ≡ true → Contains rest z
    by_first (inl same) left = absurd (true≢false (sym left ∙ ap not (eq-eqb z.0 it.0 (ap (λ (d : ℕ × Doubt). d.0) (sym same)))))
    by_first (inr later) left = later

    by_cases : Contains doubts z × (not (z.0 == it.0) ≡ true) → Contains rest z
    by_cases found = by_first (Contains-cons_cases it z rest (here z found.0)) found.1

pub settles_all : (course : Course) (frames : ℕ → List Frame) (doubts : List (ℕ × Doubt)) → Midway course.past course.config → Meets course.past course.config frames → AllPairs (λ a b. a.0 ≢ b.0) doubts
    → ((z : ℕ × Doubt) → Contains doubts z → Contains course.past.doubts z) → ((z : ℕ × Doubt) → Contains course.past.doubts z → Contains doubts z) → Settles course frames doubts
settles_all course frames [] midway meets differ there here =
    record { settled = []; are = refl; none = none_in course.past.doubts (λ z has. Contains-nil z (here z has)); meets = meets }
settles_all course frames (it ∷ doubts) midway meets differ there here =
    let has = there it (Contains-here it doubts) in
    let one = settles_one course.past course.config frames it.0 midway meets it.1 has in
    let is = sym (entry_is course it.0 it.1 one.0 (found_of course.past.doubts it midway.asks_differ has)) in
    let rest = settles_all (settled_course course it.0 (if_stood one.0 it.1)) frames doubts (midway_after course.past course.config it one.0 midway has) one.1
    (AllPairs-tail (λ (a b : ℕ × Doubt). a.0 ≢ b.0) it doubts differ) (left_there course.past.doubts doubts it differ there) (left_here course.past.doubts doubts it here) in
    record {
      settled = (it, one.0) ∷ rest.settled;
      are = ap (λ (xs : List (ℕ × Doubt)). it ∷ xs) rest.are;
      none = subst (λ (next : Course). (after_entries next (settled_entries rest.settled)).past.doubts ≡ []) is rest.none;
      meets = subst (λ (next : Course). Meets (after_entries next (settled_entries rest.settled)).past (after_entries next (settled_entries rest.settled)).config frames) is rest.meets;
    }
