-- A group's changes, one item after another.
use Rattle.std.proofs.Common.{◌≡◌, ℕ, ◌+◌, ◌<◌, ◌≤◌, List, [], ◌∷◌, ◌++◌, map, Bool, true, false, cond, length, get_or, take, drop, refl, sym, ap, subst, ◌∙◌, arith}
use Rattle.std.specs.Prelude.{Option, Some, None, Result, Ok, Err, All, nat_lt}
use Rattle.std.proofs.lemmas.List.Elements.{All-nil, All-head, All-tail, All-push}
use Rattle.std.proofs.lemmas.List.{drop_all, drop_more, get_or-drop, length-drop, length-map, map-append, map_more, take_all}
use Rattle.tab_keys.specs.declared.keys.Key.{Key}
use Rattle.tab_edm.specs.Entities.{EntityView, entity_size}
use Rattle.tab_edm.specs.declared.entities.TheConstants.{MOST_PROPERTIES, MOST_SIZE}
use Rattle.tab_rows.specs.Rows.{RowView, row_at}
use Rattle.tab_rows.specs.declared.changes.Change.{Change}
use Rattle.tab_ops.specs.Groups.{ItemView, item_key, IsMadeFor, AreApart}
use Rattle.tab_keys.specs.Results.{◌>>=◌}
use Rattle.tab_ops.specs.Changes.{meets, merged, within_limits, merge_outcome, on_condition, outcome_of, settled, rows_after, group_outcome, group_keys, changed, applied, change_key, HasTick, change_to, as_change, change_of}
use Rattle.tab_ops.specs.declared.ops.Match.{Match}
use Rattle.tab_ops.specs.declared.ops.Op.{Op}
use Rattle.tab_ops.specs.declared.ops.Op.TheVariants.{Insert, Update, Replace, Merge, MergeIn, Delete}
use Rattle.tab_ops.specs.declared.groups.OpRefused.{OpRefused}
use Rattle.tab_ops.specs.declared.groups.OpRefused.TheVariants.{TooMany, TooLarge}
use Rattle.tab_ops.proofs.GroupLaws.{AreAlike, alike_itself, head_apart, row_at-settled_other}

-- ---- the units that an entity is made for

pub record IsFor (pk_units rk_units : ℕ) (entity : EntityView) : Type 0 where
  pub pk_units_are : entity.pk_units ≡ pk_units
  pub rk_units_are : entity.rk_units ≡ rk_units

-- what an outcome's entity is made for
abbrev UnitsOf : ℕ → ℕ → Result (Option EntityView) OpRefused → Type 0
UnitsOf pk_units rk_units (Ok (Some entity)) = IsFor pk_units rk_units entity
UnitsOf pk_units rk_units (Ok None) = Unit {0}
UnitsOf pk_units rk_units (Err why) = Unit {0}

units_within : (p r index : ℕ) (entity : EntityView) → IsFor p r entity → UnitsOf p r (within_limits index entity)
units_within p r index entity h = by_test (nat_lt MOST_PROPERTIES (length entity.properties)) (nat_lt MOST_SIZE (entity_size entity.pk_units entity.rk_units entity.properties))
  where
    by_test : (b c : Bool) → UnitsOf p r (cond b (Err (TooMany index)) (cond c (Err (TooLarge index)) (Ok (Some entity))))
    by_test true c = tt
    by_test false true = tt
    by_test false false = h

units_merged : (p r index : ℕ) (kept given : EntityView) → IsFor p r given → UnitsOf p r (merge_outcome index kept given)
unfolding merge_outcome
units_merged p r index kept given h = units_within p r index (record given { properties = merged kept.properties given.properties }) (record { pk_units_are = h.pk_units_are; rk_units_are = h.rk_units_are })

units_on_condition : (p r index : ℕ) (condition : Match) (kept : ℕ) (outcome : Result (Option EntityView) OpRefused) → UnitsOf p r outcome → UnitsOf p r (on_condition index condition kept outcome)
units_on_condition p r index condition kept outcome h = by_test (meets condition kept)
  where
    by_test : (b : Bool) → UnitsOf p r (cond b outcome (Err (OpRefused.Condition index kept)))
    by_test true = h
    by_test false = tt

units_of_outcome : (p r index : ℕ) (row : Option RowView) (op : Op) → IsMadeFor p r op → UnitsOf p r (outcome_of index row op)
units_of_outcome p r index None (Insert entity) h = record { pk_units_are = h.0; rk_units_are = h.1 }
units_of_outcome p r index None (Update entity condition) h = tt
units_of_outcome p r index None (Replace entity) h = record { pk_units_are = h.0; rk_units_are = h.1 }
units_of_outcome p r index None (Merge entity condition) h = tt
units_of_outcome p r index None (MergeIn entity) h = record { pk_units_are = h.0; rk_units_are = h.1 }
units_of_outcome p r index None (Delete condition) h = tt
units_of_outcome p r index (Some row) (Insert entity) h = tt
units_of_outcome p r index (Some row) (Update entity condition) h = units_on_condition p r index condition row.tick (Ok (Some entity)) (record { pk_units_are = h.0; rk_units_are = h.1 })
units_of_outcome p r index (Some row) (Replace entity) h = record { pk_units_are = h.0; rk_units_are = h.1 }
units_of_outcome p r index (Some row) (Merge entity condition) h =
    units_on_condition p r index condition row.tick (merge_outcome index row.entity entity) (units_merged p r index row.entity entity (record { pk_units_are = h.0; rk_units_are = h.1 }))
units_of_outcome p r index (Some row) (MergeIn entity) h = units_merged p r index row.entity entity (record { pk_units_are = h.0; rk_units_are = h.1 })
units_of_outcome p r index (Some row) (Delete condition) h = units_on_condition p r index condition row.tick (Ok None) tt

-- an operation's new entity is made for the keys that the operation was made for
pub made_for : (p r index : ℕ) (row : Option RowView) (op : Op) (entity : EntityView) → IsMadeFor p r op → outcome_of index row op ≡ Ok (Some entity) → IsFor p r entity
made_for p r index row op entity h is = subst (UnitsOf p r) is (units_of_outcome p r index row op h)

-- ---- changes

changed_to : (rows : List RowView) (key : Key) (tick : ℕ) (outcome : Option EntityView) → changed rows (change_to key tick outcome) ≡ settled rows key tick outcome
changed_to rows key tick (Some entity) = refl
changed_to rows key tick None = refl

applied-last : (rows : List RowView) (changes : List Change) (change : Change) → applied rows (changes ++ change ∷ []) ≡ changed (applied rows changes) change
applied-last rows [] change = refl
applied-last rows (first ∷ changes) change = applied-last (changed rows first) changes change

key_of_change : (key : Key) (tick : ℕ) (outcome : Option EntityView) → change_key (change_to key tick outcome) ≡ key
key_of_change key tick (Some entity) = refl
key_of_change key tick None = refl

tick_of_change : (key : Key) (tick : ℕ) (outcome : Option EntityView) → HasTick tick (change_to key tick outcome)
tick_of_change key tick (Some entity) = refl
tick_of_change key tick None = tt

keys_more : (changes : List Change) (change : Change) (keys : List Key) (key : Key) → map change_key changes ≡ keys → key ≡ change_key change → map change_key (changes ++ change ∷ []) ≡ keys ++ key ∷ []
keys_more changes change keys key so_far here =
    map-append change_key changes (change ∷ []) ∙ (ap (λ (own : List Key). own ++ change_key change ∷ []) so_far ∙ ap (λ (own : Key). keys ++ own ∷ []) (sym here))

-- an item that makes a change
record Makes (index : ℕ) (rows : List RowView) (table tick : ℕ) (item : ItemView) (change : Change) : Type 0 where
  pub outcome : Option EntityView
  pub is : outcome_of index (row_at rows (item_key table item)) item.op ≡ Ok outcome
  pub made : change_to (item_key table item) tick outcome ≡ change

makes : (index : ℕ) (rows : List RowView) (table tick : ℕ) (item : ItemView) (change : Change) → change_of index rows table tick item ≡ Ok change → Makes index rows table tick item change
makes index rows table tick item change h = by_case (outcome_of index (row_at rows (item_key table item)) item.op) refl
  where
    turned : (o : Result (Option EntityView) OpRefused) → outcome_of index (row_at rows (item_key table item)) item.op ≡ o → as_change (item_key table item) tick o ≡ Ok change
    turned o e = ap (as_change (item_key table item) tick) (sym e) ∙ h

    by_case : (o : Result (Option EntityView) OpRefused) → outcome_of index (row_at rows (item_key table item)) item.op ≡ o → Makes index rows table tick item change
    by_case (Ok outcome) e = let it = turned (Ok outcome) e in record { outcome = outcome; is = e; made = cc }
    by_case (Err why) e = let stuck = turned (Err why) e in absurd (cc)

refuses : (index : ℕ) (rows : List RowView) (table tick : ℕ) (item : ItemView) (why : OpRefused) → change_of index rows table tick item ≡ Err why → outcome_of index (row_at rows (item_key table item)) item.op ≡ Err why
refuses index rows table tick item why h = by_case (outcome_of index (row_at rows (item_key table item)) item.op) refl
  where
    turned : (o : Result (Option EntityView) OpRefused) → outcome_of index (row_at rows (item_key table item)) item.op ≡ o → as_change (item_key table item) tick o ≡ Err why
    turned o e = ap (as_change (item_key table item) tick) (sym e) ∙ h

    by_case : (o : Result (Option EntityView) OpRefused) → outcome_of index (row_at rows (item_key table item)) item.op ≡ o → outcome_of index (row_at rows (item_key table item)) item.op ≡ Err why
    by_case (Ok outcome) e = let stuck = turned (Ok outcome) e in absurd (cc)
    by_case (Err other) e = let it = turned (Err other) e in e ∙ cc

-- ---- the loop

-- the changes of the items before this index, and what is left
pub record Planned (rows : List RowView) (changes : List Change) (table tick : ℕ) (items : List ItemView) (i : ℕ) : Type 0 where
  pub so_far : group_outcome rows table tick items ≡ rows_after i (applied rows changes) table tick (drop i items)
  pub alike : AreAlike (applied rows changes) rows table (drop i items)
  pub keys : map change_key changes ≡ map (item_key table) (take i items)
  pub ticks : All (HasTick tick) changes

pub planned_none : (rows : List RowView) (table tick : ℕ) (items : List ItemView) → Planned rows [] table tick items 0
planned_none rows table tick items = record { so_far = refl; alike = alike_itself rows table items; keys = refl; ticks = All-nil (HasTick tick) }

apart_behind : (items : List ItemView) (n : ℕ) → AreApart items → AreApart (drop n items)
apart_behind items n apart = λ i j d below within.
    let l = length-drop n items in
    rw (get_or-drop n items i d, get_or-drop n items j d) (apart (n + i) (n + j) d (omega arith) (omega arith))

module _ (rows : List RowView) (changes : List Change) (table tick : ℕ) (items : List ItemView) (i : ℕ) (item : ItemView) (within : i < length items) (here : item ≡ get_or items i item) (planned : Planned rows changes table tick items i) where
  abbrev key : Key
  key = item_key table item

  abbrev now : List RowView
  now = applied rows changes

  abbrev rest : List ItemView
  rest = drop (i + 1) items

  behind : drop i items ≡ item ∷ rest
  behind = drop_more items i item within ∙ ap (λ x. x ∷ rest) (sym here)

  alike_here : AreAlike now rows table (item ∷ rest)
  alike_here = subst (AreAlike now rows table) behind planned.alike

  same_row : row_at now key ≡ row_at rows key
  same_row = All-head (λ item. row_at now (item_key table item) ≡ row_at rows (item_key table item)) item rest alike_here

  abbrev next : Option EntityView → Result (List RowView) OpRefused
  next outcome = rows_after (i + 1) (settled now key tick outcome) table tick rest

  pub planned_stops : (why : OpRefused) → change_of i rows table tick item ≡ Err why → group_outcome rows table tick items ≡ Err why
  planned_stops why h =
      planned.so_far
      ∙ (ap (rows_after i now table tick) behind
      ∙ (ap (λ row. outcome_of i row item.op >>= next) same_row ∙ ap (λ r. r >>= next) (refuses i rows table tick item why h)))

  pub planned_more : (change : Change) → AreApart items → change_of i rows table tick item ≡ Ok change → Planned rows (changes ++ change ∷ []) table tick items (i + 1)
  planned_more change apart h =
      let one = makes i rows table tick item change h in
      let rows_now : settled now key tick one.outcome ≡ applied rows (changes ++ change ∷ []) = sym (changed_to now key tick one.outcome) ∙ (ap (changed now) one.made ∙ sym (applied-last rows changes change)) in
      record {
        so_far = planned.so_far
            ∙ (ap (rows_after i now table tick) behind
            ∙ (ap (λ row. outcome_of i row item.op >>= next) same_row
            ∙ (ap (λ r. r >>= next) one.is ∙ ap (λ (after : List RowView). rows_after (i + 1) after table tick rest) rows_now)));
        alike = subst (λ (after : List RowView). AreAlike after rows table rest) rows_now
            (λ k d inside. row_at-settled_other now key tick one.outcome _ (head_apart table item rest (subst AreApart behind (apart_behind items i apart)) k d inside)
            ∙ All-tail (λ item. row_at now (item_key table item) ≡ row_at rows (item_key table item)) item rest alike_here k d inside);
        keys = keys_more changes change (map (item_key table) (take i items)) key planned.keys (sym (ap change_key (sym one.made) ∙ key_of_change key tick one.outcome))
            ∙ (ap (λ x. map (item_key table) (take i items) ++ item_key table x ∷ []) here ∙ sym (map_more (item_key table) items i item within));
        ticks = All-push (HasTick tick) changes change planned.ticks (subst (HasTick tick) one.made (tick_of_change key tick one.outcome));
      }

pub planned_all : (rows : List RowView) (changes : List Change) (table tick : ℕ) (items : List ItemView) (i : ℕ) → length items ≤ i → Planned rows changes table tick items i → group_outcome rows table tick items ≡ Ok (applied rows changes)
planned_all rows changes table tick items i end planned = planned.so_far ∙ ap (rows_after i (applied rows changes) table tick) (drop_all i items end)

pub planned_keys : (rows : List RowView) (changes : List Change) (table tick : ℕ) (items : List ItemView) (i : ℕ) → length items ≤ i → Planned rows changes table tick items i → map change_key changes ≡ group_keys table items
planned_keys rows changes table tick items i end planned = planned.keys ∙ ap (map (item_key table)) (take_all i items end)

pub planned_count : (rows : List RowView) (changes : List Change) (table tick : ℕ) (items : List ItemView) (i : ℕ) → length items ≤ i → Planned rows changes table tick items i → length changes ≡ length items
planned_count rows changes table tick items i end planned =
    sym (length-map changes change_key) ∙ (ap length (planned_keys rows changes table tick items i end planned) ∙ length-map items (item_key table))

-- one item more, as the loop has it
pub planned_step : {rows : List RowView} {changes longer : List Change} {change : Change} {table tick : ℕ} {group items : List ItemView} {i : ℕ} {item : ItemView}
    → Planned rows changes table tick items i → change_of i rows table tick item ≡ Ok change → longer ≡ changes ++ change ∷ []
    → item ≡ get_or items i item → items ≡ group → AreApart group → i < length items → Planned rows longer table tick items (i + 1)
planned_step {rows} {changes} {longer} {change} {table} {tick} {group} {items} {i} {item} planned makes_it is here lent apart within =
    rw is (planned_more rows changes table tick items i item within here planned change (subst AreApart (sym lent) apart) makes_it)
