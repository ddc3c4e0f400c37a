-- A refusal of a group names an index in it.
use Rattle.std.proofs.Common.{◌≡◌, ℕ, ◌+◌, ◌<◌, ◌≤◌, List, [], ◌∷◌, length, arith, subst, Bool, true, false, Option, Some, None, Result, Ok, Err}
use Rattle.std.specs.Prelude.{IfErr, if◌then◌else◌, nat_lt, ⊤}
use Rattle.tab_edm.specs.Entities.{EntityView, entity_size}
use Rattle.tab_edm.specs.declared.entities.TheConstants.{MOST_PROPERTIES, MOST_SIZE}
use Rattle.tab_rows.specs.Rows.{RowView, row_at}
use Rattle.tab_ops.specs.Groups.{ItemView, item_key}
use Rattle.tab_keys.specs.Results.{◌>>=◌}
use Rattle.tab_ops.specs.Changes.{meets, within_limits, merge_outcome, on_condition, outcome_of, rows_after, settled, group_outcome, IsTimely, merged}
use Rattle.tab_ops.specs.declared.ops.Match.{Match}
use Rattle.tab_ops.specs.declared.ops.Op.{Op}
use Rattle.tab_ops.specs.declared.ops.Op.TheVariants.{Insert, Update, Replace, Merge, MergeIn, Delete}
use Rattle.tab_ops.specs.declared.groups.OpRefused.{OpRefused}
use Rattle.tab_ops.specs.declared.groups.OpRefused.TheVariants as op
use Rattle.tab_history.specs.declared.asks.Ask.TheVariants as ask
use Rattle.tab_service.specs.Replies.{SuitsRefusal}

-- the index that it names is one of so many
abbrev IsBelow : ℕ → OpRefused → Type 0
IsBelow count (op.AlreadyThere index) = index < count
IsBelow count (op.NotThere index) = index < count
IsBelow count (op.Condition index tick) = index < count
IsBelow count (op.TooMany index) = index < count
IsBelow count (op.TooLarge index) = index < count
IsBelow count op.Memory = ⊤

either_below : {A : Type 0} (P : OpRefused → Type 0) (test : Bool) (a b : Result A OpRefused) → IfErr a P → IfErr b P → IfErr (if test then a else b) P
either_below P true a b x y = x
either_below P false a b x y = y

limits_below : (index count : ℕ) (entity : EntityView) → index < count → IfErr (within_limits index entity) (IsBelow count)
limits_below index count entity below =
    either_below (IsBelow count) (nat_lt MOST_PROPERTIES (length entity.properties)) _ _ below
    (either_below (IsBelow count) (nat_lt MOST_SIZE (entity_size entity.pk_units entity.rk_units entity.properties)) _ _ below tt)

merge_below : (index count : ℕ) (kept given : EntityView) → index < count → IfErr (merge_outcome index kept given) (IsBelow count)
unfolding merge_outcome
merge_below index count kept given below = limits_below index count (record given { properties = merged kept.properties given.properties }) below

condition_below : (index count : ℕ) (condition : Match) (kept : ℕ) (outcome : Result (Option EntityView) OpRefused) → index < count → IfErr outcome (IsBelow count)
    → IfErr (on_condition index condition kept outcome) (IsBelow count)
condition_below index count condition kept outcome below holds = either_below (IsBelow count) (meets condition kept) outcome (Err (op.Condition index kept)) holds below

outcome_below : (index count : ℕ) (row : Option RowView) (op : Op) → index < count → IfErr (outcome_of index row op) (IsBelow count)
outcome_below index count None (Insert entity) below = tt
outcome_below index count None (Update entity condition) below = below
outcome_below index count None (Replace entity) below = tt
outcome_below index count None (Merge entity condition) below = below
outcome_below index count None (MergeIn entity) below = tt
outcome_below index count None (Delete condition) below = below
outcome_below index count (Some row) (Insert entity) below = below
outcome_below index count (Some row) (Update entity condition) below = condition_below index count condition row.tick (Ok (Some entity)) below tt
outcome_below index count (Some row) (Replace entity) below = tt
outcome_below index count (Some row) (Merge entity condition) below = condition_below index count condition row.tick (merge_outcome index row.entity entity) below (merge_below index count row.entity entity below)
outcome_below index count (Some row) (MergeIn entity) below = merge_below index count row.entity entity below
outcome_below index count (Some row) (Delete condition) below = condition_below index count condition row.tick (Ok None) below tt

through : {A B : Type 0} (P : OpRefused → Type 0) (found : Result A OpRefused) (next : A → Result B OpRefused) → IfErr found P → ((a : A) → IfErr (next a) P) → IfErr (found >>= next) P
through P (Ok a) next holds later = later a
through P (Err why) next holds later = holds

items_below : (index count : ℕ) (rows : List RowView) (table tick : ℕ) (items : List ItemView) → index + length items ≤ count → IfErr (rows_after index rows table tick items) (IsBelow count)
items_below index count rows table tick [] within = tt
items_below index count rows table tick (item ∷ items) within =
    through (IsBelow count) (outcome_of index (row_at rows (item_key table item)) item.op)
    (λ outcome. rows_after (index + 1) (settled rows (item_key table item) tick outcome) table tick items)
    (outcome_below index count (row_at rows (item_key table item)) item.op (omega (arith, within)))
    (λ outcome. items_below (index + 1) count (settled rows (item_key table item) tick outcome) table tick items (omega (arith, within)))

refused_below : (rows : List RowView) (table tick : ℕ) (group : List ItemView) (refusal : OpRefused) → group_outcome rows table tick group ≡ Err refusal → IsBelow (length group) refusal
refused_below rows table tick group refusal is =
    subst (λ (outcome : Result (List RowView) OpRefused). IfErr outcome (IsBelow (length group))) is (items_below 0 (length group) rows table tick group (omega arith))

placed : (group : List ItemView) (refusal : OpRefused) → IsBelow (length group) refusal → IsTimely refusal → SuitsRefusal (ask.Change group) refusal
placed group (op.AlreadyThere index) below timely = below
placed group (op.NotThere index) below timely = below
placed group (op.Condition index tick) below timely = (below, timely)
placed group (op.TooMany index) below timely = below
placed group (op.TooLarge index) below timely = below
placed group op.Memory below timely = tt

-- so it is one that its change may have
pub suits_refusal : (rows : List RowView) (table tick : ℕ) (group : List ItemView) (refusal : OpRefused) → group_outcome rows table tick group ≡ Err refusal → IsTimely refusal
    → SuitsRefusal (ask.Change group) refusal
suits_refusal rows table tick group refusal is timely = placed group refusal (refused_below rows table tick group refusal is) timely
