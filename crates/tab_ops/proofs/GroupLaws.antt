-- What groups make of rows: item by item, and as a whole.
use Rattle.std.proofs.Common.{◌≡◌, ℕ, zero, suc, ◌+◌, List, [], ◌∷◌, Ordering, Bool, true, false, ◌&&◌, ◌||◌, cond, is_eq, length, get_or, refl, sym, ap, ◌∙◌, subst, arith, inl, inr}
use Rattle.std.specs.Prelude.{Option, Some, None, Ok, Err, Result, All, Contains, IsFalse, IsOk, bytes_eq, nat_lt, slice_get}
use Rattle.std.proofs.lemmas.Bool.{or_parts}
use Rattle.std.proofs.lemmas.Option.{none-some, same_Some}
use Rattle.std.proofs.lemmas.List.{get_or-map, length-map}
use Rattle.std.proofs.lemmas.List.Elements.{All-nil, All-cons, All-head, All-tail, All-weaker, All-contains_itself}
use Rattle.std.specs.Cmp.Lexicographic.{bytes_decides}
use Rattle.std.specs.Ordering.{nat_cmp, ordering_then}
use Rattle.std.specs.declared.cmp.Ordering.TheVariants.{Less, Equal, Greater}
use Rattle.tab_keys.specs.Order.{text_cmp, key_cmp, same_key}
use Rattle.tab_keys.specs.declared.keys.Key.{Key}
use Rattle.tab_edm.specs.Entities.{EntityView}
use Rattle.tab_edm.proofs.Refusals.{first_none, later_none}
use Rattle.tab_rows.specs.Rows.{RowView, AreRising, row_at}
use Rattle.tab_rows.proofs.RowLaws.{AreRising-with_row, AreRising-without_row, row_at-with_row, row_at-without_row, row_at-with_row_other, row_at-without_row_other, All-with_row, All-without_row}
use Rattle.tab_keys.specs.TableNames.{folded}
use Rattle.tab_keys.proofs.OrderLaws.{same_key_equivalence, bytes_eq-is}
use Rattle.std.specs.List.{list_any}
use Rattle.std.specs.Str.{IsUtf8}
use Rattle.std.proofs.lemmas.List.Kept.{AllPairs-cons}
use Rattle.std.specs.Option.{option_or}
use Rattle.tab_ops.specs.Groups.{ItemView, item_key, AreApart, first_elsewhere, first_doubled, most_items, group_refusal}
use Rattle.tab_ops.specs.declared.groups.GroupRefused.{GroupRefused}
use Rattle.tab_ops.specs.declared.groups.GroupRefused.TheVariants.{TooMany, MixedPartitions, DoubledRow}
use Rattle.tab_keys.specs.Results.{◌>>=◌}
use Rattle.tab_ops.specs.Changes.{outcome_of, settled, rows_after, group_outcome, group_keys}
use Rattle.tab_ops.specs.Laws.{row_made, IsKeptOrPut, SawRowsBefore, IsRefusedByItem}
use Rattle.tab_ops.specs.declared.groups.OpRefused.{OpRefused}
use Rattle.tab_rows.proofs.Lists.{AllPairs-head, AllPairs-tail}

-- ---- one item

ok_is : {rows after : List RowView} → ◌≡◌ {A = Result (List RowView) OpRefused} (Ok rows) (Ok after) → rows ≡ after
ok_is e = cc

-- keys whose row keys are told apart are told apart
pub keys_apart : (table : ℕ) (a b : ItemView) → IsFalse (is_eq (text_cmp a.rk b.rk)) → IsFalse (same_key (item_key table a) (item_key table b))
unfolding key_cmp
keys_apart table a b apart = last (nat_cmp table table) (text_cmp a.pk b.pk) (text_cmp a.rk b.rk) apart
  where
    last : (x y z : Ordering) → is_eq z ≡ false → is_eq (ordering_then x (ordering_then y z)) ≡ false
    last Less y z h = refl
    last Greater y z h = refl
    last Equal Less z h = refl
    last Equal Greater z h = refl
    last Equal Equal z h = h

-- the item's key is told apart from those of the items behind it
pub head_apart : (table : ℕ) (item : ItemView) (items : List ItemView) → AreApart (item ∷ items) → All (λ other. IsFalse (same_key (item_key table item) (item_key table other))) items
head_apart table item items apart =
    All-weaker (λ other. IsFalse (is_eq (text_cmp item.rk other.rk))) (λ other. IsFalse (same_key (item_key table item) (item_key table other))) (λ other h. keys_apart table item other h) items
    (AllPairs-head (λ a b. IsFalse (is_eq (text_cmp a.rk b.rk))) item items apart)

-- another key has the row that it had
pub row_at-settled_other : (rows : List RowView) (key : Key) (tick : ℕ) (outcome : Option EntityView) (other : Key) → IsFalse (same_key key other) → row_at (settled rows key tick outcome) other ≡ row_at rows other
row_at-settled_other rows key tick (Some entity) other apart = row_at-with_row_other rows (record { key = key; entity = entity; tick = tick }) other apart
row_at-settled_other rows key tick None other apart = row_at-without_row_other rows key other apart

row_at-settled : (rows : List RowView) (key : Key) (tick : ℕ) (outcome : Option EntityView) → row_at (settled rows key tick outcome) key ≡ row_made key tick outcome
row_at-settled rows key tick (Some entity) = row_at-with_row rows (record { key = key; entity = entity; tick = tick })
row_at-settled rows key tick None = row_at-without_row rows key

pub AreRising-settled : (rows : List RowView) (key : Key) (tick : ℕ) (outcome : Option EntityView) → AreRising rows → AreRising (settled rows key tick outcome)
AreRising-settled rows key tick (Some entity) rising = AreRising-with_row rows (record { key = key; entity = entity; tick = tick }) rising
AreRising-settled rows key tick None rising = AreRising-without_row rows key rising

-- an accepted item, and what is made of the rows behind it
record Accepted (index : ℕ) (rows : List RowView) (table tick : ℕ) (item : ItemView) (items : List ItemView) (after : List RowView) : Type 0 where
  pub outcome : Option EntityView
  pub is : outcome_of index (row_at rows (item_key table item)) item.op ≡ Ok outcome
  pub rest : rows_after (index + 1) (settled rows (item_key table item) tick outcome) table tick items ≡ Ok after

accepted : (index : ℕ) (rows : List RowView) (table tick : ℕ) (item : ItemView) (items : List ItemView) (after : List RowView) → rows_after index rows table tick (item ∷ items) ≡ Ok after → Accepted index rows table tick item items after
accepted index rows table tick item items after h = by_case (outcome_of index (row_at rows (item_key table item)) item.op) refl
  where
    next : Option EntityView → Result (List RowView) OpRefused
    next outcome = rows_after (index + 1) (settled rows (item_key table item) tick outcome) table tick items

    by_case : (o : Result (Option EntityView) OpRefused) → outcome_of index (row_at rows (item_key table item)) item.op ≡ o → Accepted index rows table tick item items after
    by_case (Ok outcome) e = record { outcome = outcome; is = e; rest = ap (λ r. r >>= next) (sym e) ∙ h }
    by_case (Err why) e = let stuck : Err why ≡ Ok after = ap (λ r. r >>= next) (sym e) ∙ h in absurd (cc)

-- ---- laws of groups

-- rows in rising order stay so
pub AreRising-rows_after : (index : ℕ) (rows : List RowView) (table tick : ℕ) (items : List ItemView) (after : List RowView) → AreRising rows → rows_after index rows table tick items ≡ Ok after → AreRising after
AreRising-rows_after index rows table tick [] after rising h = subst AreRising (ok_is h) rising
AreRising-rows_after index rows table tick (item ∷ items) after rising h =
    let one = accepted index rows table tick item items after h in
    AreRising-rows_after (index + 1) (settled rows (item_key table item) tick one.outcome) table tick items after (AreRising-settled rows (item_key table item) tick one.outcome rising) one.rest

-- what holds of the rows, and of each row that an item may put, holds of the rows after the group
pub All-rows_after : (P : RowView → Type 0) (index : ℕ) (rows : List RowView) (table tick : ℕ) (items : List ItemView) (after : List RowView) → All P rows
    → All (λ item. (entity : EntityView) → P (record { key = item_key table item; entity = entity; tick = tick })) items → rows_after index rows table tick items ≡ Ok after → All P after
All-rows_after P index rows table tick [] after all each h = subst (All P) (ok_is h) all
All-rows_after P index rows table tick (item ∷ items) after all each h =
    let Q = λ (item : ItemView). (entity : EntityView) → P (record { key = item_key table item; entity = entity; tick = tick }) in
    let one = accepted index rows table tick item items after h in
    All-rows_after P (index + 1) (settled rows (item_key table item) tick one.outcome) table tick items after (put one.outcome (All-head Q item items each)) (All-tail Q item items each) one.rest
  where
    put : (outcome : Option EntityView) → ((entity : EntityView) → P (record { key = item_key table item; entity = entity; tick = tick })) → All P (settled rows (item_key table item) tick outcome)
    put (Some entity) own = All-with_row P rows (record { key = item_key table item; entity = entity; tick = tick }) all (own entity)
    put None own = All-without_row P rows (item_key table item) all

keys_contained : (table : ℕ) (items : List ItemView) → All (λ item. Contains (group_keys table items) (item_key table item)) items
keys_contained table items = λ k d within.
    (k, omega (arith, length-map items (item_key table)), get_or-map (item_key table) items k d (item_key table (get_or items k d)) within)

-- a row after a group stood before, or has one of the group's keys and its tick
pub kept_or_put : (rows after : List RowView) (table tick : ℕ) (group : List ItemView) → group_outcome rows table tick group ≡ Ok after → All (IsKeptOrPut rows table tick group) after
kept_or_put rows after table tick group h =
    All-rows_after (IsKeptOrPut rows table tick group) 0 rows table tick group after
    (All-weaker (Contains rows) (IsKeptOrPut rows table tick group) (λ row k. inl k) rows (All-contains_itself rows))
    (All-weaker (λ item. Contains (group_keys table group) (item_key table item)) (λ item. (entity : EntityView) → IsKeptOrPut rows table tick group (record { key = item_key table item; entity = entity; tick = tick }))
    (λ item k entity. inr (refl, k)) group (keys_contained table group))
    h

-- a key that no item has keeps its row or its absence
pub row_at-rows_after_other : (index : ℕ) (rows : List RowView) (table tick : ℕ) (items : List ItemView) (after : List RowView) (key : Key) → All (λ item. IsFalse (same_key (item_key table item) key)) items
    → rows_after index rows table tick items ≡ Ok after → row_at after key ≡ row_at rows key
row_at-rows_after_other index rows table tick [] after key apart h = ap (λ r. row_at r key) (sym (ok_is h))
row_at-rows_after_other index rows table tick (item ∷ items) after key apart h =
    let Q = λ (item : ItemView). IsFalse (same_key (item_key table item) key) in
    let one = accepted index rows table tick item items after h in
    row_at-rows_after_other (index + 1) (settled rows (item_key table item) tick one.outcome) table tick items after key (All-tail Q item items apart) one.rest
    ∙ row_at-settled_other rows (item_key table item) tick one.outcome key (All-head Q item items apart)

-- two lists of rows have the same at the keys of these items
abbrev pub AreAlike : List RowView → List RowView → ℕ → List ItemView → Type 0
AreAlike rows others table items = All (λ item. row_at rows (item_key table item) ≡ row_at others (item_key table item)) items

-- they still have it after an item whose key is told apart
pub alike_settled : (rows others : List RowView) (table tick other : ℕ) (item : ItemView) (outcome : Option EntityView) (items : List ItemView) → AreApart (item ∷ items) → AreAlike rows others table (item ∷ items)
    → AreAlike (settled rows (item_key table item) tick outcome) (settled others (item_key table item) other outcome) table items
alike_settled rows others table tick other item outcome items apart alike = λ k d within.
    let away = head_apart table item items apart k d within in
    row_at-settled_other rows (item_key table item) tick outcome _ away
    ∙ (All-tail (λ item. row_at rows (item_key table item) ≡ row_at others (item_key table item)) item items alike k d within
    ∙ sym (row_at-settled_other others (item_key table item) other outcome _ away))

-- a refusal does not depend on the tick, nor on rows at other keys
pub refused_alike : (index : ℕ) (rows others : List RowView) (table tick other : ℕ) (items : List ItemView) (why : OpRefused) → AreApart items → AreAlike rows others table items
    → rows_after index rows table tick items ≡ Err why → rows_after index others table other items ≡ Err why
refused_alike index rows others table tick other [] why apart alike h = absurd (cc)
refused_alike index rows others table tick other (item ∷ items) why apart alike h = by_case (λ outcome k. refused_alike (index + 1) (settled rows (item_key table item) tick outcome) (settled others (item_key table item) other outcome) table tick other items why
    (AllPairs-tail (λ a b. IsFalse (is_eq (text_cmp a.rk b.rk))) item items apart) (alike_settled rows others table tick other item outcome items apart alike) k)
    (outcome_of index (row_at rows (item_key table item)) item.op) refl
  where
    key : Key
    key = item_key table item

    next : List RowView → ℕ → Option EntityView → Result (List RowView) OpRefused
    next rows tick outcome = rows_after (index + 1) (settled rows key tick outcome) table tick items

    same : outcome_of index (row_at rows key) item.op ≡ outcome_of index (row_at others key) item.op
    same = ap (λ row. outcome_of index row item.op) (All-head (λ item. row_at rows (item_key table item) ≡ row_at others (item_key table item)) item items alike)

    by_case : ((outcome : Option EntityView) → next rows tick outcome ≡ Err why → next others other outcome ≡ Err why) → (o : Result (Option EntityView) OpRefused) → outcome_of index (row_at rows key) item.op ≡ o → rows_after index others table other (item ∷ items) ≡ Err why
    by_case later (Ok outcome) e =
        ap (λ r. r >>= next others other) (sym same ∙ e) ∙ later outcome (ap (λ r. r >>= next rows tick) (sym e) ∙ h)
    by_case later (Err refusal) e =
        ap (λ r. r >>= next others other) (sym same ∙ e) ∙ (ap (λ r. r >>= next rows tick) (sym e) ∙ h)

pub alike_itself : (rows : List RowView) (table : ℕ) (items : List ItemView) → AreAlike rows rows table items
alike_itself rows table items = λ k d within. refl

-- a refusal is that of an item, by how many items stand before it
record RefusedFrom (index : ℕ) (rows : List RowView) (table : ℕ) (items : List ItemView) (why : OpRefused) : Type 0 where
  pub behind : ℕ
  pub item : ItemView
  pub here : slice_get items behind ≡ Some item
  pub refused : outcome_of (index + behind) (row_at rows (item_key table item)) item.op ≡ Err why

refused_from : (index : ℕ) (rows now : List RowView) (table tick : ℕ) (items : List ItemView) (why : OpRefused) → AreApart items → AreAlike now rows table items
    → rows_after index now table tick items ≡ Err why → RefusedFrom index rows table items why
refused_from index rows now table tick [] why apart alike h = absurd (cc)
refused_from index rows now table tick (item ∷ items) why apart alike h =
    by_case
    (λ outcome k. refused_from (index + 1) rows (settled now (item_key table item) tick outcome) table tick items why
    (AllPairs-tail (λ a b. IsFalse (is_eq (text_cmp a.rk b.rk))) item items apart)
    (λ n d within. row_at-settled_other now (item_key table item) tick outcome _ (head_apart table item items apart n d within)
    ∙ All-tail (λ item. row_at now (item_key table item) ≡ row_at rows (item_key table item)) item items alike n d within)
    k)
    (outcome_of index (row_at now (item_key table item)) item.op) refl
  where
    next : Option EntityView → Result (List RowView) OpRefused
    next outcome = rows_after (index + 1) (settled now (item_key table item) tick outcome) table tick items

    later : RefusedFrom (index + 1) rows table items why → RefusedFrom index rows table (item ∷ items) why
    later r =
        let further : (index + 1) + r.behind ≡ index + suc r.behind = omega arith in
        record { behind = suc r.behind; item = r.item; here = r.here; refused = ap (λ n. outcome_of n (row_at rows (item_key table r.item)) r.item.op) (sym further) ∙ r.refused }

    by_case : ((outcome : Option EntityView) → next outcome ≡ Err why → RefusedFrom (index + 1) rows table items why) → (o : Result (Option EntityView) OpRefused) → outcome_of index (row_at now (item_key table item)) item.op ≡ o → RefusedFrom index rows table (item ∷ items) why
    by_case rest (Ok outcome) e = later (rest outcome (ap (λ r. r >>= next) (sym e) ∙ h))
    by_case rest (Err refusal) e =
        let at_once : index + zero ≡ index = omega arith in
        let stopped : (Err refusal >>= next) ≡ Err why = ap (λ r. r >>= next) (sym e) ∙ h in
        record {
          behind = zero;
          item = item;
          here = refl;
          refused = ap (λ n. outcome_of n (row_at rows (item_key table item)) item.op) at_once
              ∙ (ap (λ row. outcome_of index row item.op) (sym (All-head (λ item. row_at now (item_key table item) ≡ row_at rows (item_key table item)) item items alike)) ∙ (e ∙ cc));
        }

pub refused_by_item : (rows : List RowView) (table tick : ℕ) (group : List ItemView) (why : OpRefused) → AreApart group → group_outcome rows table tick group ≡ Err why → IsRefusedByItem rows table group why
refused_by_item rows table tick group why apart h =
    let r = refused_from 0 rows rows table tick group why apart (alike_itself rows table group) h in
    let behind : 0 + r.behind ≡ r.behind = omega arith in
    record { index = r.behind; item = r.item; here = r.here; refused = ap (λ n. outcome_of n (row_at rows (item_key table r.item)) r.item.op) (sym behind) ∙ r.refused }

pub refused_at_any_tick : (rows : List RowView) (table tick other : ℕ) (group : List ItemView) (why : OpRefused) → AreApart group → group_outcome rows table tick group ≡ Err why → group_outcome rows table other group ≡ Err why
refused_at_any_tick rows table tick other group why apart h = refused_alike 0 rows rows table tick other group why apart (alike_itself rows table group) h

pub accepted_at_any_tick : (rows after : List RowView) (table tick other : ℕ) (group : List ItemView) → AreApart group → group_outcome rows table tick group ≡ Ok after → IsOk (group_outcome rows table other group)
accepted_at_any_tick rows after table tick other group apart h = by_case (group_outcome rows table other group) refl
  where
    by_case : (o : Result (List RowView) OpRefused) → group_outcome rows table other group ≡ o → IsOk (group_outcome rows table other group)
    by_case (Ok others) e = rw e refl
    by_case (Err why) e = let stuck : Ok after ≡ Err why = sym h ∙ refused_at_any_tick rows table other tick group why apart e in absurd (cc)

-- each item acts on the rows as they were before the group
pub saw_rows_before : (index : ℕ) (rows now after : List RowView) (table tick behind : ℕ) (items : List ItemView) (item : ItemView) → AreApart items → AreAlike now rows table items
    → rows_after index now table tick items ≡ Ok after → slice_get items behind ≡ Some item → SawRowsBefore rows after table tick (index + behind) item
saw_rows_before index rows now after table tick behind [] item apart alike h here = absurd (none-some item here)
saw_rows_before index rows now after table tick zero (first ∷ items) item apart alike h here =
    let one = accepted index now table tick first items after h in
    let it : first ≡ item = same_Some first item here in
    let key = item_key table first in
    let at_once : index + zero ≡ index = omega arith in
    subst (λ (x : ItemView). SawRowsBefore rows after table tick (index + zero) x) it (record {
      outcome = one.outcome;
      is = ap (λ n. outcome_of n (row_at rows key) first.op) at_once ∙ (ap (λ row. outcome_of index row first.op) (sym (All-head (λ item. row_at now (item_key table item) ≡ row_at rows (item_key table item)) first items alike)) ∙ one.is);
      stands = row_at-rows_after_other (index + 1) (settled now key tick one.outcome) table tick items after key (All-weaker (λ other. IsFalse (same_key key (item_key table other))) (λ other. IsFalse (same_key (item_key table other) key)) (λ other k. same_key_equivalence.symm (item_key table other) key ∙ k) items (head_apart table first items apart)) one.rest
          ∙ row_at-settled now key tick one.outcome;
    })
saw_rows_before index rows now after table tick (suc behind) (first ∷ items) item apart alike h here =
    let one = accepted index now table tick first items after h in
    let later : (index + 1) + behind ≡ index + suc behind = omega arith in
    subst (λ (n : ℕ). SawRowsBefore rows after table tick n item) later
    (saw_rows_before (index + 1) rows (settled now (item_key table first) tick one.outcome) after table tick behind items item
    (AllPairs-tail (λ a b. IsFalse (is_eq (text_cmp a.rk b.rk))) first items apart)
    (λ k d within. row_at-settled_other now (item_key table first) tick one.outcome _ (head_apart table first items apart k d within)
    ∙ All-tail (λ item. row_at now (item_key table item) ≡ row_at rows (item_key table item)) first items alike k d within)
    one.rest here)

pub each_saw_rows_before : (rows after : List RowView) (table tick index : ℕ) (group : List ItemView) (item : ItemView) → AreApart group
    → group_outcome rows table tick group ≡ Ok after → slice_get group index ≡ Some item → SawRowsBefore rows after table tick index item
each_saw_rows_before rows after table tick index group item apart h here =
    let behind : 0 + index ≡ index = omega arith in
    subst (λ (n : ℕ). SawRowsBefore rows after table tick n item) behind (saw_rows_before 0 rows rows after table tick index group item apart (alike_itself rows table group) h here)

pub other_keys_stay : (rows after : List RowView) (table tick : ℕ) (group : List ItemView) (key : Key) → All (λ own. IsFalse (same_key own key)) (group_keys table group)
    → group_outcome rows table tick group ≡ Ok after → row_at after key ≡ row_at rows key
other_keys_stay rows after table tick group key apart h =
    row_at-rows_after_other 0 rows table tick group after key (λ k d within. ap (λ own. same_key own key) (sym (get_or-map (item_key table) group k d (item_key table d) within)) ∙ apart k (item_key table d) (omega (arith, length-map group (item_key table)))) h

-- ---- one partition

beside_each : (index : ℕ) (first : ItemView) (items : List ItemView) → first_elsewhere index first items ≡ None → All (λ item. item.pk ≡ first.pk) items
beside_each index first [] h = All-nil (λ item. item.pk ≡ first.pk)
beside_each index first (item ∷ items) h = by_test (λ k. beside_each (index + 1) first items k) (bytes_eq (folded item.name) (folded first.name)) (bytes_eq item.pk first.pk) refl refl
  where
    told : (b c : Bool) → bytes_eq (folded item.name) (folded first.name) ≡ b → bytes_eq item.pk first.pk ≡ c → cond (b && c) (first_elsewhere (index + 1) first items) (Some (MixedPartitions index)) ≡ None
    told b c e f = rw (← e, ← f) h

    by_test : (first_elsewhere (index + 1) first items ≡ None → All (λ item. item.pk ≡ first.pk) items) → (b c : Bool) → bytes_eq (folded item.name) (folded first.name) ≡ b → bytes_eq item.pk first.pk ≡ c → All (λ item. item.pk ≡ first.pk) (item ∷ items)
    by_test later true true e f = All-cons (λ item. item.pk ≡ first.pk) item items ((bytes_decides item.pk first.pk).0 f) (later (told true true e f))
    by_test later true false e f = let stuck = told true false e f in absurd (cc)
    by_test later false c e f = let stuck = told false c e f in absurd (cc)

-- the two parts of why an allowed group is not refused
record NotRefused (items : List ItemView) (first : ItemView) : Type 0 where
  pub together : first_elsewhere 0 first items ≡ None
  pub single : first_doubled 0 [] items ≡ None

not_refused : (first : ItemView) (items : List ItemView) → group_refusal (first ∷ items) ≡ None → NotRefused (first ∷ items) first
unfolding group_refusal
not_refused first items h = by_test (nat_lt most_items (length (first ∷ items))) refl
  where
    elsewhere : Option GroupRefused
    elsewhere = first_elsewhere 0 first (first ∷ items)

    doubled : Option GroupRefused
    doubled = first_doubled 0 [] (first ∷ items)

    by_test : (b : Bool) → nat_lt most_items (length (first ∷ items)) ≡ b → NotRefused (first ∷ items) first
    by_test true e = let stuck : Some TooMany ≡ None = ap (λ b. cond b (Some TooMany) (option_or elsewhere doubled)) (sym e) ∙ h in absurd (cc)
    by_test false e =
        let both : option_or elsewhere doubled ≡ None = ap (λ b. cond b (Some TooMany) (option_or elsewhere doubled)) (sym e) ∙ h in
        record { together = first_none elsewhere doubled both; single = later_none elsewhere doubled both }

-- the operations of a group lie in one partition
pub in_one_partition : (first : ItemView) (items : List ItemView) → group_refusal (first ∷ items) ≡ None → All (λ item. item.pk ≡ first.pk) items
in_one_partition first items h = All-tail (λ item. item.pk ≡ first.pk) first items (beside_each 0 first (first ∷ items) (not_refused first items h).together)

-- ---- rows of their own

-- no row key stood before, or stands twice
record HasOwnRows (before : List (List ℕ)) (items : List ItemView) : Type 0 where
  pub new : All (λ item. list_any (λ rk. bytes_eq rk item.rk) before ≡ false) items
  pub apart : AreApart items

own_rows : (index : ℕ) (before : List (List ℕ)) (items : List ItemView) → All (λ item. IsUtf8 item.rk) items → first_doubled index before items ≡ None → HasOwnRows before items
own_rows index before [] texts h = record { new = All-nil (λ item. list_any (λ rk. bytes_eq rk item.rk) before ≡ false); apart = λ i j d below within. absurd (omega arith) }
own_rows index before (item ∷ items) texts h =
    by_test (λ k. own_rows (index + 1) (item.rk ∷ before) items (All-tail (λ item. IsUtf8 item.rk) item items texts) k) (list_any (λ rk. bytes_eq rk item.rk) before) refl
  where
    told : (b : Bool) → list_any (λ rk. bytes_eq rk item.rk) before ≡ b → cond b (Some (DoubledRow index)) (first_doubled (index + 1) (item.rk ∷ before) items) ≡ None
    told b e = rw (← e) h

    joined : list_any (λ rk. bytes_eq rk item.rk) before ≡ false → HasOwnRows (item.rk ∷ before) items → HasOwnRows before (item ∷ items)
    joined e rest = record {
      new = All-cons (λ other. list_any (λ rk. bytes_eq rk other.rk) before ≡ false) item items e
          (All-weaker (λ other. (bytes_eq item.rk other.rk || list_any (λ rk. bytes_eq rk other.rk) before) ≡ false) (λ other. list_any (λ rk. bytes_eq rk other.rk) before ≡ false) (λ other h. (or_parts (bytes_eq item.rk other.rk) (list_any (λ rk. bytes_eq rk other.rk) before) h).1) items rest.new);
      apart = AllPairs-cons (λ a b. IsFalse (is_eq (text_cmp a.rk b.rk))) item items
          (λ k d within. sym (bytes_eq-is item.rk (get_or items k d).rk (All-head (λ item. IsUtf8 item.rk) item items texts) (All-tail (λ item. IsUtf8 item.rk) item items texts k d within))
          ∙ (or_parts (bytes_eq item.rk (get_or items k d).rk) (list_any (λ rk. bytes_eq rk (get_or items k d).rk) before) (rest.new k d within)).0)
          rest.apart;
    }

    by_test : (first_doubled (index + 1) (item.rk ∷ before) items ≡ None → HasOwnRows (item.rk ∷ before) items) → (b : Bool) → list_any (λ rk. bytes_eq rk item.rk) before ≡ b → HasOwnRows before (item ∷ items)
    by_test rest true e = let stuck = told true e in absurd (cc)
    by_test rest false e = joined e (rest (told false e))

-- no two operations of a group have one row key
pub rows_of_their_own : (items : List ItemView) → All (λ item. IsUtf8 item.rk) items → group_refusal items ≡ None → AreApart items
rows_of_their_own [] texts h = λ i j d below within. absurd (omega arith)
rows_of_their_own (first ∷ items) texts h = (own_rows 0 [] (first ∷ items) texts (not_refused first items h).single).apart
