-- What a group leaves of the rows: their order, the rows at other keys, and what holds of all rows.
use Rattle.std.proofs.Common.{◌≡◌, ℕ, ◌+◌, List, [], ◌∷◌, false, map, All, Contains, refl, sym, ap, ◌∙◌, subst}
use Rattle.std.specs.Prelude.{Option, Some, None, Result, Ok, Err, is_ok}
use Rattle.std.specs.Result.{result_unwrap_or}
use Rattle.std.proofs.lemmas.Bool.{true≢false}
use Rattle.std.proofs.lemmas.List.Elements.{All-nil, All-cons, All-head, All-tail, All-contains}
use Rattle.tab_keys.specs.Order.{same_key}
use Rattle.tab_keys.specs.declared.keys.Key.{Key}
use Rattle.tab_edm.specs.Entities.{EntityView}
use Rattle.tab_rows.specs.Rows.{RowView, AreRising, row_at}
use Rattle.tab_rows.proofs.RowLaws.{row_at-with_row_other, row_at-without_row_other, All-with_row, All-without_row}
use Rattle.tab_page.proofs.RisingLists.{Contains-here, Contains-there}
use Rattle.tab_ops.specs.Groups.{ItemView, item_key}
use Rattle.tab_keys.specs.Results.{◌>>=◌}
use Rattle.tab_ops.specs.Changes.{outcome_of, settled, rows_after, group_outcome, group_keys}
use Rattle.tab_ops.specs.declared.groups.OpRefused.{OpRefused}
use Rattle.tab_ops.proofs.GroupLaws.{AreRising-settled}

same_Ok : (x y : List RowView) (result : Result (List RowView) OpRefused) → result ≡ Ok x → result ≡ Ok y → x ≡ y
same_Ok x y result h k = ap (λ other. result_unwrap_or other x) (sym h ∙ k)

pub err_ok : (x : List RowView) (refusal : OpRefused) (result : Result (List RowView) OpRefused) → result ≡ Err refusal → result ≡ Ok x → ⊥
err_ok x refusal result h k = true≢false (sym (ap is_ok k) ∙ ap is_ok h)

-- what each item leaves true of the rows is true after all of them
pub rows_after-keep : (P : List RowView → Type 0) (table tick : ℕ) (items : List ItemView)
    → ((rows : List RowView) (item : ItemView) (outcome : Option EntityView) → Contains items item → P rows → P (settled rows (item_key table item) tick outcome))
    → (index : ℕ) (rows later : List RowView) → P rows → rows_after index rows table tick items ≡ Ok later → P later
rows_after-keep P table tick [] step index rows later h e = subst P (same_Ok rows later (Ok rows) refl e) h
rows_after-keep P table tick (item ∷ items) step index rows later h e =
    by_outcome (λ between k f. rows_after-keep P table tick items (λ kept other outcome within. step kept other outcome (Contains-there item other items within)) (index + 1) between later k f)
    (outcome_of index (row_at rows (item_key table item)) item.op) e
  where
    by_outcome : ((between : List RowView) → P between → rows_after (index + 1) between table tick items ≡ Ok later → P later)
        → (outcome : Result (Option EntityView) OpRefused)
        → (outcome >>= λ settles. rows_after (index + 1) (settled rows (item_key table item) tick settles) table tick items) ≡ Ok later → P later
    by_outcome rest (Ok outcome) f = rest (settled rows (item_key table item) tick outcome) (step rows item outcome (Contains-here item items) h) f
    by_outcome rest (Err refusal) f = absurd (err_ok later refusal (Err refusal) refl f)

-- the keys still rise after a group
pub group-rising : (rows later : List RowView) (table tick : ℕ) (group : List ItemView) → AreRising rows → group_outcome rows table tick group ≡ Ok later → AreRising later
group-rising rows later table tick group =
    rows_after-keep AreRising table tick group (λ kept item outcome within h. AreRising-settled kept (item_key table item) tick outcome h) 0 rows later

pub settled-other : (rows : List RowView) (key other : Key) (tick : ℕ) (outcome : Option EntityView) → same_key key other ≡ false → row_at (settled rows key tick outcome) other ≡ row_at rows other
settled-other rows key other tick (Some entity) apart = row_at-with_row_other rows (record { key = key; entity = entity; tick = tick }) other apart
settled-other rows key other tick None apart = row_at-without_row_other rows key other apart

-- what holds of each key of a group, by its items
pub All-items : (P : Key → Type 0) (table : ℕ) (group : List ItemView) → All P (group_keys table group) → (item : ItemView) → Contains group item → P (item_key table item)
All-items P table group h item within = All-contains (λ other. P (item_key table other)) group item (by_items group h) within
  where
    by_items : (items : List ItemView) → All P (map (item_key table) items) → All (λ other. P (item_key table other)) items
    by_items [] k = All-nil (λ other. P (item_key table other))
    by_items (first ∷ items) k =
        All-cons (λ other. P (item_key table other)) first items (All-head P (item_key table first) (map (item_key table) items) k)
        (by_items items (All-tail P (item_key table first) (map (item_key table) items) k))

-- a key that none of a group's items has keeps its row
pub group-other : (rows later : List RowView) (table tick : ℕ) (group : List ItemView) (key : Key) → All (λ other. same_key other key ≡ false) (group_keys table group)
    → group_outcome rows table tick group ≡ Ok later → row_at later key ≡ row_at rows key
group-other rows later table tick group key apart e =
    rows_after-keep (λ kept. row_at kept key ≡ row_at rows key) table tick group
    (λ kept item outcome within h. settled-other kept (item_key table item) key tick outcome (All-items (λ other. same_key other key ≡ false) table group apart item within) ∙ h)
    0 rows later refl e

settled-all : (P : RowView → Type 0) (rows : List RowView) (key : Key) (tick : ℕ) (outcome : Option EntityView) → ((entity : EntityView) → P (record { key = key; entity = entity; tick = tick }))
    → All P rows → All P (settled rows key tick outcome)
settled-all P rows key tick (Some entity) put h = All-with_row P rows (record { key = key; entity = entity; tick = tick }) h (put entity)
settled-all P rows key tick None put h = All-without_row P rows key h

-- what holds of all rows, and of each row with the tick at a key of the group, holds of all rows after it
pub group-all : (P : RowView → Type 0) (rows later : List RowView) (table tick : ℕ) (group : List ItemView)
    → All (λ key. (entity : EntityView) → P (record { key = key; entity = entity; tick = tick })) (group_keys table group)
    → All P rows → group_outcome rows table tick group ≡ Ok later → All P later
group-all P rows later table tick group put h e =
    rows_after-keep (All P) table tick group
    (λ kept item outcome within k. settled-all P kept (item_key table item) tick outcome (All-items (λ key. (entity : EntityView) → P (record { key = key; entity = entity; tick = tick })) table group put item within) k)
    0 rows later h e
