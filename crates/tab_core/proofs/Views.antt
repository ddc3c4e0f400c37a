-- What the disks of a store spell of a course, as a view of the world and the configuration, and what an operation makes of it.
use Rattle.std.proofs.Common.{◌≡◌, ◌≢◌, ℕ, suc, ◌+◌, ◌⊎◌, List, [], ◌∷◌, Bool, true, false, ◌==◌, not, Contains, refl, sym, ap, ◌∙◌, subst, inl, inr}
use Rattle.std.specs.Prelude.{Option, Some, None, Any}
use Rattle.std.proofs.lemmas.Bool.{eqb-true}
use Rattle.std.proofs.lemmas.List.Elements.{All-contains}
use Rattle.tab_rows.specs.Rows.{RowView, AreRising}
use Rattle.tab_rows.specs.Spans.{rows_in}
use Rattle.tab_ops.specs.Groups.{ItemView, item_key, group_refusal}
use Rattle.tab_ops.specs.Changes.{group_keys}
use Rattle.tab_page.proofs.RisingLists.{Contains-filter}
use Rattle.tab_history.specs.World.{World, Named, with_name, without_name}
use Rattle.tab_history.specs.Doubts.{Accepts, AreOpen, without_doubt}
use Rattle.tab_history.specs.Legality.{State, acted, world_after}
use Rattle.tab_history.specs.Configurations.{MapRow, Configuration, ticked, ticked_in, next_tick_of}
use Rattle.tab_history.specs.Tilings.{TileKeys}
use Rattle.tab_history.specs.Ranges.{routed, HaveOwnRanges, AreAlikeIn}
use Rattle.tab_history.specs.declared.entries.Doubt.{Doubt}
use Rattle.tab_history.specs.declared.entries.Doubt.TheVariants as doubt
use Rattle.tab_history.proofs.RangeLaws.{ticked_routed, alike_there, alike_acted}
use Rattle.tab_history.proofs.ConfigurationLaws.{one_row}
use Rattle.tab_server.specs.Replays.{SpelledRange}
use Rattle.tab_master.specs.Spelled.{SpelledNames}
use Rattle.tab_core.specs.Courses.{IsOfGroup, store_of, store_of_row}
use Rattle.tab_core.specs.Points.{held_in}
use Rattle.tab_core.proofs.Sorting.{same_by}

-- ---- operations that stand or not

abbrev pub if_stood : Bool → Doubt → Option Doubt
if_stood true what = Some what
if_stood false what = None

-- what a history has come to when a request's doubt has ended
abbrev pub left_by : State → ℕ → Option Doubt → State
left_by past ask operation = record past { world = world_after past.world operation; doubts = without_doubt past.doubts ask }

-- ---- next ticks alone change

-- what does not look at the next ticks stays as it is
pub ticked_same : {A : Type 0} (f : Configuration → A) → ((config : Configuration) (ticks : List (ℕ × ℕ)) → f (record config { next_ticks = ticks }) ≡ f config) → (config : Configuration) (operation : Option Doubt)
    → f (ticked config operation) ≡ f config
ticked_same {A} f same config None = refl
ticked_same {A} f same config (Some (doubt.Create name table)) = refl
ticked_same {A} f same config (Some (doubt.Drop name)) = refl
ticked_same {A} f same config (Some (doubt.Change table group tick)) = ap f (ticked_routed config table tick group) ∙ by_case (routed config.rows (group_keys table group))
  where
    by_case : (row : Option MapRow) → f (ticked_in config row tick) ≡ f config
    by_case (Some row) = same config _
    by_case None = refl

pub ticked_rows : (config : Configuration) (operation : Option Doubt) → (ticked config operation).rows ≡ config.rows
ticked_rows config operation = ticked_same (λ (it : Configuration). it.rows) (λ it ticks. refl) config operation

-- ---- views

-- an operation leaves what is seen as it is
abbrev pub Leaves : {A : Type 0} → (World → Configuration → A) → World → Configuration → Doubt → Type 0
Leaves view world config what = view (acted world what) (ticked config (Some what)) ≡ view world config

-- where the same is seen in two worlds, so it is behind an operation that both accept
abbrev pub StaysSame : {A : Type 0} → (World → Configuration → A) → Type 0
StaysSame view =
    (world : World) (config : Configuration) (other : World) (other_config : Configuration) (what : Doubt) → view world config ≡ view other other_config → config.rows ≡ other_config.rows
    → AreRising world.rows → AreRising other.rows → Accepts world what → Accepts other what
    → view (acted world what) (ticked config (Some what)) ≡ view (acted other what) (ticked other_config (Some what))

-- what was read is what is seen, or what is seen behind an operation in doubt
abbrev pub PointOf : {A : Type 0} → (World → Configuration → A) → Option A → State → Configuration → Type 0
PointOf view read past config = (read ≡ Some (view past.world config)) ⊎ Any (λ doubt. read ≡ Some (view (acted past.world doubt.1) (ticked config (Some doubt.1)))) past.doubts

left_same : {A : Type 0} (view : World → Configuration → A) (world : World) (config : Configuration) (what : Doubt) (stood : Bool) → Leaves view world config what
    → view (world_after world (if_stood stood what)) (ticked config (if_stood stood what)) ≡ view world config
left_same view world config what true leaves = leaves
left_same view world config what false leaves = refl

-- an operation in doubt that leaves what is seen may end either way
pub keeps_point : {A : Type 0} (view : World → Configuration → A) (read : Option A) (past : State) (config : Configuration) (ask : ℕ) (what : Doubt) (stood : Bool) → StaysSame view
    → AreRising past.world.rows → AreRising (world_after past.world (if_stood stood what)).rows → AreOpen past.world past.doubts
    → AreOpen (world_after past.world (if_stood stood what)) (without_doubt past.doubts ask) → ((it : ℕ × Doubt) → Contains past.doubts it → it.0 ≡ ask → it.1 ≡ what)
    → Leaves view past.world config what → PointOf view read past config → PointOf view read (left_by past ask (if_stood stood what)) (ticked config (if_stood stood what))
keeps_point {A} view read past config ask what stood stays rising rises now_open still_open only leaves point = by_point point
  where
    later : State
    later = left_by past ask (if_stood stood what)

    later_config : Configuration
    later_config = ticked config (if_stood stood what)

    same : view later.world later_config ≡ view past.world config
    same = left_same view past.world config what stood leaves

    ended : (it : ℕ × Doubt) → Contains past.doubts it → it.0 ≡ ask → read ≡ Some (view (acted past.world it.1) (ticked config (Some it.1))) → read ≡ Some (view later.world later_config)
    ended it among own e =
        subst (λ (d : Doubt). read ≡ Some (view (acted past.world d) (ticked config (Some d)))) (only it among own) e ∙ ap (λ (seen : A). Some seen) (leaves ∙ sym same)

    goes_on : (it : ℕ × Doubt) → Contains past.doubts it → Contains later.doubts it → read ≡ Some (view (acted past.world it.1) (ticked config (Some it.1)))
        → PointOf view read later later_config
    goes_on it among left e =
        inr (
          left.0,
          it,
          left.1,
          left.2,
          e ∙ ap (λ (seen : A). Some seen) (stays past.world config later.world later_config it.1 (sym same) (sym (ticked_rows config (if_stood stood what))) rising rises
              (All-contains (λ (d : ℕ × Doubt). Accepts past.world d.1) past.doubts it now_open.acceptable among)
              (All-contains (λ (d : ℕ × Doubt). Accepts later.world d.1) later.doubts it still_open.acceptable left)),
        )

    by_ask : (it : ℕ × Doubt) → Contains past.doubts it → read ≡ Some (view (acted past.world it.1) (ticked config (Some it.1))) → (t : Bool) → (it.0 == ask) ≡ t → PointOf view read later later_config
    by_ask it among e true own = inl (ended it among (eqb-true it.0 ask own) e)
    by_ask it among e false other = goes_on it among (Contains-filter (λ (d : ℕ × Doubt). not (d.0 == ask)) past.doubts it among (ap not other)) e

    by_point : PointOf view read past config → PointOf view read later later_config
    by_point (inl e) = inl (e ∙ ap (λ (seen : A). Some seen) (sym same))
    by_point (inr any) = by_ask any.1 (any.0, any.2, any.3) any.4 (any.1.0 == ask) refl

-- where each other operation in doubt leaves what is seen, what was read tells of one whether it stands
pub tells_stood : {A : Type 0} (view : World → Configuration → A) (read : Option A) (past : State) (config : Configuration) (what : Doubt)
    → ((it : ℕ × Doubt) → Contains past.doubts it → (it.1 ≡ what) ⊎ Leaves view past.world config it.1) → PointOf view read past config
    → (stood : Bool) × (read ≡ Some (view (world_after past.world (if_stood stood what)) (ticked config (if_stood stood what))))
tells_stood {A} view read past config what others (inl e) = (false, e)
tells_stood {A} view read past config what others (inr any) = by_other (others any.1 (any.0, any.2, any.3))
  where
    by_other : (any.1.1 ≡ what) ⊎ Leaves view past.world config any.1.1
        → (stood : Bool) × (read ≡ Some (view (world_after past.world (if_stood stood what)) (ticked config (if_stood stood what))))
    by_other (inl own) = (true, subst (λ (d : Doubt). read ≡ Some (view (acted past.world d) (ticked config (Some d)))) own any.4)
    by_other (inr leaves) = (false, any.4 ∙ ap (λ (seen : A). Some seen) leaves)

-- ---- the names

abbrev pub names_view : World → Configuration → SpelledNames
names_view world config = record { next_table = world.next_table; names = world.names }

abbrev named_as : ℕ → List Named → SpelledNames
named_as next names = record { next_table = next; names = names }

pub names_stay : StaysSame names_view
names_stay world config other other_config (doubt.Change table group tick) same rows rising rises a b = same
names_stay world config other other_config (doubt.Create name table) same rows rising rises a b =
    ap (λ (seen : SpelledNames). named_as (table + 1) (with_name seen.names (record { spelling = name; table = table }))) same
names_stay world config other other_config (doubt.Drop name) same rows rising rises a b =
    ap (λ (seen : SpelledNames). named_as seen.next_table (without_name seen.names name)) same

-- ---- a range

abbrev pub range_view : MapRow → World → Configuration → SpelledRange
range_view row world config = held_in world config row

abbrev held_as : MapRow → List RowView → ℕ → SpelledRange
held_as row rows next = record { range = row.range; span = row.span; rows = rows; next_tick = next; is_whole = true }

same_held : (row : MapRow) (world : World) (config : Configuration) (other : World) (other_config : Configuration) → AreAlikeIn row world config other other_config → held_in world config row ≡ held_in other other_config row
unfolding held_in
same_held row world config other other_config alike =
    ap (λ (rows : List RowView). held_as row rows (next_tick_of config.next_ticks row.range)) alike.rows ∙ ap (λ (next : ℕ). held_as row (rows_in row.span other.rows) next) alike.next_tick

alike_held : (row : MapRow) (world : World) (config : Configuration) (other : World) (other_config : Configuration) → held_in world config row ≡ held_in other other_config row → AreAlikeIn row world config other other_config
unfolding held_in
alike_held row world config other other_config same = record { rows = ap (λ (held : SpelledRange). held.rows) same; next_tick = ap (λ (held : SpelledRange). held.next_tick) same }

pub range_stays : (row : MapRow) → StaysSame (range_view row)
range_stays row world config other other_config what same rows rising rises a b =
    same_held row (acted world what) (ticked config (Some what)) (acted other what) (ticked other_config (Some what))
    (alike_acted row world config other other_config what (alike_held row world config other other_config same) rows rising rises a b)

-- a change of a group has a row
pub record Routes (rows : List MapRow) (table : ℕ) (group : List ItemView) : Type 0 where
  pub row : MapRow
  pub found : routed rows (group_keys table group) ≡ Some row
  pub among : Contains rows row

pub routes : (rows : List MapRow) (table : ℕ) (group : List ItemView) → TileKeys rows → group_refusal group ≡ None → Routes rows table group
unfolding group_refusal
routes rows table [] tiles allowed = absurd (cc)
routes rows table (first ∷ items) tiles allowed = let one = one_row rows (item_key table first) tiles in record { row = one.row; found = one.found; among = one.among }

-- a change leaves each range but the one that it is routed to
pub leaves_there : (world : World) (config : Configuration) (row other : MapRow) (table tick : ℕ) (group : List ItemView) → TileKeys config.rows → AreRising world.rows → group_refusal group ≡ None
    → routed config.rows (group_keys table group) ≡ Some row → Contains config.rows other → other.range ≢ row.range → Leaves (range_view other) world config (doubt.Change table group tick)
leaves_there world config row other table tick group tiles rising allowed found there apart =
    same_held other (acted world (doubt.Change table group tick)) (ticked config (Some (doubt.Change table group tick))) world config
    (alike_there world config row other table tick group tiles rising allowed found there apart)

-- so an operation about another store leaves a range
pub leaves_range : (world : World) (config : Configuration) (other : MapRow) (what : Doubt) → TileKeys config.rows → HaveOwnRanges config.rows → AreRising world.rows → IsOfGroup what → Contains config.rows other
    → store_of config what ≢ suc (suc other.server) → Leaves (range_view other) world config what
unfolding held_in
leaves_range world config other (doubt.Create name table) tiles own rising of_group there apart = refl
leaves_range world config other (doubt.Drop name) tiles own rising of_group there apart = refl
leaves_range world config other (doubt.Change table group tick) tiles own rising of_group there apart =
    leaves_there world config to.row other table tick group tiles rising of_group.allowed to.found there
    (λ e. apart (ap store_of_row to.found ∙ ap (λ (row : MapRow). suc (suc row.server)) (same_by (λ (row : MapRow). row.range) config.rows to.row other own to.among there (sym e))))
  where
    to : Routes config.rows table group
    to = routes config.rows table group tiles of_group.allowed
