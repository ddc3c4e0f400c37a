-- What a change makes of each range: of the one that it is routed to what its group makes of that range's rows, and of each
-- other nothing.
use Rattle.std.proofs.Common.{◌≡◌, ◌≢◌, ℕ, ◌+◌, ◌≤◌, ◌<◌, ◌⊎◌, max, List, [], ◌∷◌, Bool, true, false, cond, ◌==◌, get_or, Contains, All, refl, sym, ap, ◌∙◌, subst, inl, inr, eq-eqb, arith}
use Rattle.std.specs.Prelude.{Option, Some, None, Result, Ok, Err, IsTrue, IsFalse}
use Rattle.std.specs.Result.{result_unwrap_or}
use Rattle.std.proofs.lemmas.Bool.{true≢false, cases_lt, ne_eqb, eqb-true, eqb-false}
use Rattle.std.proofs.lemmas.Option.{none-some}
use Rattle.std.proofs.lemmas.List.Elements.{All-contains, All-weaker}
use Rattle.tab_keys.specs.Spans.{Interval, has}
use Rattle.tab_keys.specs.declared.keys.Key.{Key}
use Rattle.tab_edm.specs.declared.TheConstants.{GREATEST}
use Rattle.tab_rows.specs.Rows.{RowView, AreRising}
use Rattle.tab_rows.specs.Spans.{rows_in}
use Rattle.tab_rows.proofs.Lists.{AllPairs-head, AllPairs-tail}
use Rattle.tab_rows.proofs.SpanLaws.{has_alike}
use Rattle.tab_ops.specs.Groups.{ItemView, item_key, group_refusal}
use Rattle.tab_ops.specs.Changes.{group_outcome, group_keys}
use Rattle.tab_ops.specs.Spans.{outcome_in}
use Rattle.tab_ops.specs.declared.groups.OpRefused.{OpRefused}
use Rattle.tab_ops.proofs.SpanLaws.{keys_in_one_span, group_in, group_elsewhere, group_same}
use Rattle.tab_page.proofs.RisingLists.{Contains-here, Contains-cons_cases, Contains-nil, All-from_each}
use Rattle.tab_history.specs.World.{World, Floors, floor_of, raised, MayHaveTick}
use Rattle.tab_history.specs.Doubts.{Accepts}
use Rattle.tab_history.specs.Legality.{acted}
use Rattle.tab_history.specs.Configurations.{MapRow, Configuration, next_tick_of, ticked, ticked_in}
use Rattle.tab_history.specs.Tilings.{TileKeys}
use Rattle.tab_history.specs.Ranges.{routed, HaveOwnRanges, IsHeldAs, AreAlikeIn, IsNextTickIn, TicksServe}
use Rattle.tab_history.specs.declared.entries.Doubt.{Doubt}
use Rattle.tab_history.specs.declared.entries.Doubt.TheVariants as doubt
use Rattle.tab_history.proofs.ChangeLaws.{ahead_of}
use Rattle.tab_history.proofs.ConfigurationLaws.{row_with-found, one_row}
use Rattle.tab_history.proofs.FloorLaws.{any_contains, any_holds, floor_of-alike, changed_by, floor_of-raised_all}

-- ---- the keys of a routed group

-- they lie in the span of the row that it is routed to
pub keys_here : (rows : List MapRow) (row : MapRow) (table : ℕ) (group : List ItemView) → group_refusal group ≡ None → routed rows (group_keys table group) ≡ Some row → All (λ key. IsTrue (has row.span key)) (group_keys table group)
keys_here rows row table [] allowed found = absurd (none-some row found)
keys_here rows row table (first ∷ items) allowed found = keys_in_one_span row.span table first items allowed (row_with-found rows (item_key table first) row found).1

-- a key of one row is no other's
apart_from : (rows : List MapRow) (row other : MapRow) (key : Key) → TileKeys rows → Contains rows row → Contains rows other → other.range ≢ row.range → IsTrue (has row.span key) → IsFalse (has other.span key)
apart_from rows row other key tiles here there apart inside = by_test (has other.span key) refl
  where
    by_test : (t : Bool) → has other.span key ≡ t → has other.span key ≡ false
    by_test true e =
        let one = one_row rows key tiles in
        absurd (apart (ap (λ (it : MapRow). it.range) (one.only other there e ∙ sym (one.only row here inside))))
    by_test false e = e

routed_among : (rows : List MapRow) (row : MapRow) (keys : List Key) → routed rows keys ≡ Some row → Contains rows row
routed_among rows row [] found = absurd (none-some row found)
routed_among rows row (key ∷ keys) found = (row_with-found rows key row found).0

-- and in no other row's
pub keys_there : (rows : List MapRow) (row other : MapRow) (table : ℕ) (group : List ItemView) → TileKeys rows → group_refusal group ≡ None → routed rows (group_keys table group) ≡ Some row
    → Contains rows other → other.range ≢ row.range → All (λ key. IsFalse (has other.span key)) (group_keys table group)
keys_there rows row other table group tiles allowed found there apart =
    All-weaker (λ key. IsTrue (has row.span key)) (λ key. IsFalse (has other.span key))
    (λ key inside. apart_from rows row other key tiles (routed_among rows row (group_keys table group) found) there apart inside)
    (group_keys table group) (keys_here rows row table group allowed found)

-- ---- rows

-- a range's rows after a change in it are what its group makes of them
pub rows_here : (world : World) (span : Interval) (table tick : ℕ) (group : List ItemView) → All (λ key. IsTrue (has span key)) (group_keys table group)
    → rows_in span (acted world (doubt.Change table group tick)).rows ≡ result_unwrap_or (group_outcome (rows_in span world.rows) table tick group) (rows_in span world.rows)
rows_here world span table tick group inside =
    by_case (group_outcome world.rows table tick group)
    ∙ ap (λ (outcome : Result (List RowView) OpRefused). result_unwrap_or outcome (rows_in span world.rows)) (sym (group_in span world.rows table tick group inside))
  where
    by_case : (outcome : Result (List RowView) OpRefused) → rows_in span (result_unwrap_or outcome world.rows) ≡ result_unwrap_or (outcome_in span outcome) (rows_in span world.rows)
    by_case (Ok after) = refl
    by_case (Err why) = refl

-- and those of a range that has none of its keys are as they were
pub rows_there : (world : World) (span : Interval) (table tick : ℕ) (group : List ItemView) → AreRising world.rows → All (λ key. IsFalse (has span key)) (group_keys table group)
    → rows_in span (acted world (doubt.Change table group tick)).rows ≡ rows_in span world.rows
rows_there world span table tick group rising outside = by_case (group_outcome world.rows table tick group) refl
  where
    by_case : (outcome : Result (List RowView) OpRefused) → group_outcome world.rows table tick group ≡ outcome → rows_in span (result_unwrap_or (group_outcome world.rows table tick group) world.rows) ≡ rows_in span world.rows
    by_case (Ok after) e = ap (λ (o : Result (List RowView) OpRefused). rows_in span (result_unwrap_or o world.rows)) e ∙ group_elsewhere span world.rows after table tick group rising outside e
    by_case (Err why) e = ap (λ (o : Result (List RowView) OpRefused). rows_in span (result_unwrap_or o world.rows)) e

-- ---- next ticks

next_tick_of-own : (ticks : List (ℕ × ℕ)) (range next : ℕ) → next_tick_of ((range, next) ∷ ticks) range ≡ next
unfolding next_tick_of
next_tick_of-own ticks range next = rw (eq-eqb range range refl) refl

next_tick_of-other : (ticks : List (ℕ × ℕ)) (range other next : ℕ) → range ≢ other → next_tick_of ((range, next) ∷ ticks) other ≡ next_tick_of ticks other
unfolding next_tick_of
next_tick_of-other ticks range other next apart = rw (ne_eqb range other apart) refl

-- a change is one of the range that it is routed to
pub ticked_routed : (config : Configuration) (table tick : ℕ) (group : List ItemView) → ticked config (Some (doubt.Change table group tick)) ≡ ticked_in config (routed config.rows (group_keys table group)) tick
ticked_routed config table tick [] = refl
ticked_routed config table tick (first ∷ items) = refl

-- and keeps the rows of the map
pub ticked-rows : (config : Configuration) (table tick : ℕ) (group : List ItemView) → (ticked config (Some (doubt.Change table group tick))).rows ≡ config.rows
ticked-rows config table tick group = ap (λ (after : Configuration). after.rows) (ticked_routed config table tick group) ∙ by_case (routed config.rows (group_keys table group))
  where
    by_case : (row : Option MapRow) → (ticked_in config row tick).rows ≡ config.rows
    by_case (Some row) = refl
    by_case None = refl

pub next_tick_here : (config : Configuration) (row : MapRow) (table tick : ℕ) (group : List ItemView) → routed config.rows (group_keys table group) ≡ Some row
    → next_tick_of (ticked config (Some (doubt.Change table group tick))).next_ticks row.range ≡ max (tick + 1) (next_tick_of config.next_ticks row.range)
next_tick_here config row table tick group found =
    ap (λ (after : Configuration). next_tick_of after.next_ticks row.range) (ticked_routed config table tick group ∙ ap (λ (to : Option MapRow). ticked_in config to tick) found)
    ∙ next_tick_of-own config.next_ticks row.range (max (tick + 1) (next_tick_of config.next_ticks row.range))

pub next_tick_there : (config : Configuration) (row : MapRow) (table tick : ℕ) (group : List ItemView) (other : ℕ) → routed config.rows (group_keys table group) ≡ Some row → other ≢ row.range
    → next_tick_of (ticked config (Some (doubt.Change table group tick))).next_ticks other ≡ next_tick_of config.next_ticks other
next_tick_there config row table tick group other found apart =
    ap (λ (after : Configuration). next_tick_of after.next_ticks other) (ticked_routed config table tick group ∙ ap (λ (to : Option MapRow). ticked_in config to tick) found)
    ∙ next_tick_of-other config.next_ticks row.range other (max (tick + 1) (next_tick_of config.next_ticks row.range)) (λ e. apart (sym e))

-- ---- ranges

-- the range that a change is routed to
pub held_here : (world : World) (config : Configuration) (row : MapRow) (table tick : ℕ) (group : List ItemView) → group_refusal group ≡ None → routed config.rows (group_keys table group) ≡ Some row
    → IsHeldAs (acted world (doubt.Change table group tick)) (ticked config (Some (doubt.Change table group tick))) row
    (result_unwrap_or (group_outcome (rows_in row.span world.rows) table tick group) (rows_in row.span world.rows)) (max (tick + 1) (next_tick_of config.next_ticks row.range))
held_here world config row table tick group allowed found =
    (rows_here world row.span table tick group (keys_here config.rows row table group allowed found), next_tick_here config row table tick group found)

-- and each other
pub held_there : (world : World) (config : Configuration) (row other : MapRow) (table tick : ℕ) (group : List ItemView) → TileKeys config.rows → AreRising world.rows → group_refusal group ≡ None → routed config.rows (group_keys table group) ≡ Some row
    → Contains config.rows other → other.range ≢ row.range
    → IsHeldAs (acted world (doubt.Change table group tick)) (ticked config (Some (doubt.Change table group tick))) other (rows_in other.span world.rows) (next_tick_of config.next_ticks other.range)
held_there world config row other table tick group tiles rising allowed found there apart =
    (rows_there world other.span table tick group rising (keys_there config.rows row other table group tiles allowed found there apart), next_tick_there config row table tick group other.range found apart)

-- so it is alike before and behind the change
pub alike_there : (world : World) (config : Configuration) (row other : MapRow) (table tick : ℕ) (group : List ItemView) → TileKeys config.rows → AreRising world.rows → group_refusal group ≡ None → routed config.rows (group_keys table group) ≡ Some row
    → Contains config.rows other → other.range ≢ row.range → AreAlikeIn other (acted world (doubt.Change table group tick)) (ticked config (Some (doubt.Change table group tick))) world config
alike_there world config row other table tick group tiles rising allowed found there apart =
    let held = held_there world config row other table tick group tiles rising allowed found there apart in
    record { rows = held.0; next_tick = held.1 }

next_tick_of-cons : (ticks : List (ℕ × ℕ)) (range next other : ℕ) → next_tick_of ((range, next) ∷ ticks) other ≡ cond (range == other) next (next_tick_of ticks other)
next_tick_of-cons ticks range next other = by_test (range == other) refl
  where
    by_test : (t : Bool) → (range == other) ≡ t → next_tick_of ((range, next) ∷ ticks) other ≡ cond t next (next_tick_of ticks other)
    by_test true e = ap (λ (n : ℕ). next_tick_of ((n, next) ∷ ticks) other) (eqb-true range other e) ∙ next_tick_of-own ticks other next
    by_test false e = next_tick_of-other ticks range other next (eqb-false range other e)

ticked_alike : (config other : Configuration) (to : Option MapRow) (tick range : ℕ) → next_tick_of config.next_ticks range ≡ next_tick_of other.next_ticks range
    → next_tick_of (ticked_in config to tick).next_ticks range ≡ next_tick_of (ticked_in other to tick).next_ticks range
ticked_alike config other None tick range same = same
ticked_alike config other (Some row) tick range same =
    next_tick_of-cons config.next_ticks row.range (max (tick + 1) (next_tick_of config.next_ticks row.range)) range
    ∙ (by_test (row.range == range) refl ∙ sym (next_tick_of-cons other.next_ticks row.range (max (tick + 1) (next_tick_of other.next_ticks row.range)) range))
  where
    by_test : (t : Bool) → (row.range == range) ≡ t → cond t (max (tick + 1) (next_tick_of config.next_ticks row.range)) (next_tick_of config.next_ticks range)
        ≡ cond t (max (tick + 1) (next_tick_of other.next_ticks row.range)) (next_tick_of other.next_ticks range)
    by_test true e =
        let here : row.range ≡ range = eqb-true row.range range e in
        ap (λ (n : ℕ). max (tick + 1) (next_tick_of config.next_ticks n)) here
        ∙ (ap (λ (n : ℕ). max (tick + 1) n) same ∙ ap (λ (n : ℕ). max (tick + 1) (next_tick_of other.next_ticks n)) (sym here))
    by_test false e = same

-- ranges that are alike stay so behind an operation that both worlds accept
pub alike_acted : (row : MapRow) (world : World) (config : Configuration) (other : World) (other_config : Configuration) (operation : Doubt) → AreAlikeIn row world config other other_config
    → config.rows ≡ other_config.rows → AreRising world.rows → AreRising other.rows → Accepts world operation → Accepts other operation
    → AreAlikeIn row (acted world operation) (ticked config (Some operation)) (acted other operation) (ticked other_config (Some operation))
alike_acted row world config other other_config (doubt.Change table group tick) alike same rising rises here there = record {
  rows =
      ap (λ (o : Result (List RowView) OpRefused). rows_in row.span (result_unwrap_or o world.rows)) here.0.1
      ∙ (group_same row.span world.rows other.rows here.0.0 there.0.0 table tick group rising rises alike.rows here.0.1 there.0.1
      ∙ ap (λ (o : Result (List RowView) OpRefused). rows_in row.span (result_unwrap_or o other.rows)) (sym there.0.1));
  next_tick =
      ap (λ (after : Configuration). next_tick_of after.next_ticks row.range) (ticked_routed config table tick group)
      ∙ (ap (λ (rows : List MapRow). next_tick_of (ticked_in config (routed rows (group_keys table group)) tick).next_ticks row.range) same
      ∙ (ticked_alike config other_config (routed other_config.rows (group_keys table group)) tick row.range alike.next_tick
      ∙ ap (λ (after : Configuration). next_tick_of after.next_ticks row.range) (sym (ticked_routed other_config table tick group))));
}
alike_acted row world config other other_config (doubt.Create name table) alike same rising rises here there = record { rows = alike.rows; next_tick = alike.next_tick }
alike_acted row world config other other_config (doubt.Drop name) alike same rising rises here there = record { rows = alike.rows; next_tick = alike.next_tick }

-- rows of one range are one row
same_range : (rows : List MapRow) (a b : MapRow) → HaveOwnRanges rows → Contains rows a → Contains rows b → a.range ≡ b.range → a ≡ b
same_range [] a b own here there e = absurd (Contains-nil a here)
same_range (first ∷ rows) a b own here there e =
    by_cases (same_range rows a b (AllPairs-tail R first rows own)) (Contains-cons_cases first a rows here) (Contains-cons_cases first b rows there)
  where
    R : MapRow → MapRow → Type 0
    R x y = x.range ≢ y.range

    apart : (other : MapRow) → Contains rows other → first.range ≢ other.range
    apart other among = All-contains (R first) rows other (AllPairs-head R first rows own) among

    by_cases : (Contains rows a → Contains rows b → a.range ≡ b.range → a ≡ b) → (first ≡ a) ⊎ Contains rows a → (first ≡ b) ⊎ Contains rows b → a ≡ b
    by_cases later (inl f) (inl g) = sym f ∙ g
    by_cases later (inl f) (inr g) = absurd (apart b g (ap (λ (it : MapRow). it.range) f ∙ e))
    by_cases later (inr f) (inl g) = absurd (apart a f (ap (λ (it : MapRow). it.range) g ∙ sym e))
    by_cases later (inr f) (inr g) = later f g e

-- ---- floors

cond_le : (b : Bool) (x y top : ℕ) → x ≤ top → y ≤ top → cond b x y ≤ top
cond_le true x y top h k = h
cond_le false x y top h k = k

-- a key's floor does not fall by a change whose tick no floor of its keys is above
floors_rise : (floors : Floors) (keys : List Key) (tick : ℕ) (key : Key) → All (λ own. floor_of floors own ≤ tick) keys → floor_of floors key ≤ floor_of (raised floors keys tick) key
floors_rise floors keys tick key below = rw (floor_of-raised_all floors keys tick key) (by_test (changed_by key keys) refl)
  where
    by_test : (t : Bool) → changed_by key keys ≡ t → floor_of floors key ≤ cond t (tick + 1) (floor_of floors key)
    by_test true e =
        let least : floor_of floors key ≤ tick = any_holds (λ own. floor_of floors own ≤ tick) key (λ own same h. subst (λ (n : ℕ). n ≤ tick) (floor_of-alike floors own key same) h) keys below e in
        omega arith
    by_test false e = omega arith

-- a tick not below the moment nor the range's next tick may be that of a change there
pub may_have_next_in : (floors : Floors) (span : Interval) (next now : ℕ) (keys : List Key) → IsNextTickIn floors span next → All (λ key. IsTrue (has span key)) keys → max now next ≤ GREATEST → MayHaveTick floors keys now (max now next)
may_have_next_in floors span next now keys is inside in_time = record {
  from_now = omega arith;
  from_floors = λ k d h. let below : floor_of floors (get_or keys k d) ≤ next = is.above (get_or keys k d) (inside k d h) in omega arith;
  not_ahead = ahead_of floors next now is.reached (cases_lt next now);
  in_time = in_time;
}

-- a next tick serves on behind a change in its range
pub next_tick_in_here : (floors : Floors) (span : Interval) (next tick : ℕ) (key : Key) (keys : List Key) → IsNextTickIn floors span next → All (λ own. floor_of floors own ≤ tick) (key ∷ keys)
    → IsNextTickIn (raised floors (key ∷ keys) tick) span (max (tick + 1) next)
next_tick_in_here floors span next tick key keys is below = record {
  above = λ other inside.
      let before : floor_of floors other ≤ next = is.above other inside in
      rw (floor_of-raised_all floors (key ∷ keys) tick other) (cond_le (changed_by other (key ∷ keys)) (tick + 1) (floor_of floors other) (max (tick + 1) next) (omega arith) (omega arith));
  reached = by_order (cases_lt (tick + 1) next);
}
  where
    own : floor_of (raised floors (key ∷ keys) tick) key ≡ tick + 1
    own = floor_of-raised_all floors (key ∷ keys) tick key ∙ ap (λ t. cond t (tick + 1) (floor_of floors key)) (any_contains (key ∷ keys) key (Contains-here key keys))

    by_reached : tick + 1 < next → (next ≡ 0) ⊎ ((some : Key) × (next ≤ floor_of floors some)) → (max (tick + 1) next ≡ 0) ⊎ ((some : Key) × (max (tick + 1) next ≤ floor_of (raised floors (key ∷ keys) tick) some))
    by_reached less (inl none) = absurd (omega arith)
    by_reached less (inr some) =
        let top : next ≤ floor_of floors some.0 = some.1 in
        let risen : floor_of floors some.0 ≤ floor_of (raised floors (key ∷ keys) tick) some.0 = floors_rise floors (key ∷ keys) tick some.0 below in
        inr (some.0, omega arith)

    by_order : (tick + 1 < next) ⊎ (next ≤ tick + 1) → (max (tick + 1) next ≡ 0) ⊎ ((some : Key) × (max (tick + 1) next ≤ floor_of (raised floors (key ∷ keys) tick) some))
    by_order (inl less) = by_reached less is.reached
    by_order (inr more) = let top = own in inr (key, omega arith)

-- and behind one elsewhere
pub next_tick_in_there : (floors : Floors) (span : Interval) (next tick : ℕ) (keys : List Key) → IsNextTickIn floors span next → All (λ own. IsFalse (has span own)) keys → All (λ own. floor_of floors own ≤ tick) keys
    → IsNextTickIn (raised floors keys tick) span next
next_tick_in_there floors span next tick keys is outside below = record {
  above = λ key inside. rw (floor_of-raised_all floors keys tick key) (by_test key inside (changed_by key keys) refl);
  reached = by_reached is.reached;
}
  where
    by_test : (key : Key) → IsTrue (has span key) → (t : Bool) → changed_by key keys ≡ t → cond t (tick + 1) (floor_of floors key) ≤ next
    by_test key inside true e =
        let none : has span key ≡ false = any_holds (λ own. has span own ≡ false) key (λ own same h. sym (has_alike span own key same) ∙ h) keys outside e in
        absurd (true≢false (sym inside ∙ none))
    by_test key inside false e = is.above key inside

    by_reached : (next ≡ 0) ⊎ ((some : Key) × (next ≤ floor_of floors some)) → (next ≡ 0) ⊎ ((some : Key) × (next ≤ floor_of (raised floors keys tick) some))
    by_reached (inl none) = inl none
    by_reached (inr some) =
        let top : next ≤ floor_of floors some.0 = some.1 in
        let risen : floor_of floors some.0 ≤ floor_of (raised floors keys tick) some.0 = floors_rise floors keys tick some.0 below in
        inr (some.0, omega arith)

-- so all next ticks serve on behind a change
pub ticks_serve : (world : World) (config : Configuration) (row : MapRow) (table tick : ℕ) (group : List ItemView) → TileKeys config.rows → HaveOwnRanges config.rows → TicksServe world.floors config
    → group_refusal group ≡ None → routed config.rows (group_keys table group) ≡ Some row → All (λ key. floor_of world.floors key ≤ tick) (group_keys table group)
    → TicksServe (acted world (doubt.Change table group tick)).floors (ticked config (Some (doubt.Change table group tick)))
ticks_serve world config row table tick [] tiles own serve allowed found below = absurd (none-some row found)
ticks_serve world config row table tick (first ∷ items) tiles own serve allowed found below =
    subst (All Serves) (sym (ticked-rows config table tick group))
    (All-from_each Serves config.rows (λ other among. by_range other among (other.range == row.range) refl))
  where
    group : List ItemView
    group = first ∷ items

    Serves : MapRow → Type 0
    Serves other = IsNextTickIn (raised world.floors (group_keys table group) tick) other.span (next_tick_of (ticked config (Some (doubt.Change table group tick))).next_ticks other.range)

    before : (other : MapRow) → Contains config.rows other → IsNextTickIn world.floors other.span (next_tick_of config.next_ticks other.range)
    before other among = All-contains (λ one. IsNextTickIn world.floors one.span (next_tick_of config.next_ticks one.range)) config.rows other serve among

    by_range : (other : MapRow) → Contains config.rows other → (t : Bool) → (other.range == row.range) ≡ t → Serves other
    by_range other among true e =
        let it : row ≡ other = same_range config.rows row other own (routed_among config.rows row (group_keys table group) found) among (sym (eqb-true other.range row.range e)) in
        subst Serves it
        (subst (IsNextTickIn (raised world.floors (group_keys table group) tick) row.span) (sym (next_tick_here config row table tick group found))
        (next_tick_in_here world.floors row.span (next_tick_of config.next_ticks row.range) tick (item_key table first) (group_keys table items) (before row (routed_among config.rows row (group_keys table group) found)) below))
    by_range other among false e =
        subst (IsNextTickIn (raised world.floors (group_keys table group) tick) other.span) (sym (next_tick_there config row table tick group other.range found (eqb-false other.range row.range e)))
        (next_tick_in_there world.floors other.span (next_tick_of config.next_ticks other.range) tick (group_keys table group) (before other among)
        (keys_there config.rows row other table group tiles allowed found among (eqb-false other.range row.range e)) below)
