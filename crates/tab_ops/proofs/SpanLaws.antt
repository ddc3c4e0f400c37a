-- Groups and changes on the rows of a span, or of any set of keys: what acts on its keys alone does there what it does on all
-- rows, and what acts on none of them leaves its rows.
use Rattle.std.proofs.Common.{◌≡◌, ℕ, ◌+◌, List, [], ◌∷◌, Bool, true, false, not, refl, sym, ap, ◌∙◌, map}
use Rattle.std.specs.Prelude.{Option, Some, None, Result, Ok, Err, All, IsTrue, IsFalse}
use Rattle.std.proofs.lemmas.List.Elements.{All-nil, All-cons, All-head, All-tail, All-weaker}
use Rattle.tab_keys.specs.Results.{◌>>=◌}
use Rattle.tab_keys.specs.Spans.{Interval, has}
use Rattle.tab_keys.specs.declared.keys.Key.{Key}
use Rattle.tab_edm.specs.Entities.{EntityView}
use Rattle.tab_rows.specs.Rows.{RowView, AreRising, row_at}
use Rattle.tab_rows.specs.Spans.{rows_in, rows_beside}
use Rattle.tab_rows.specs.declared.changes.Change.{Change}
use Rattle.tab_rows.specs.declared.changes.Change.TheVariants.{Put, Take}
use Rattle.tab_rows.proofs.RowLaws.{AreRising-with_row, AreRising-without_row}
use Rattle.tab_rows.proofs.SpanLaws.{IsOfKeys, has_alike, beside_alike, has_partition, kept, with_row-kept, without_row-kept, row_at-kept, with_row-other, without_row-other}
use Rattle.tab_ops.specs.Groups.{ItemView, item_key, group_refusal}
use Rattle.tab_ops.specs.Changes.{outcome_of, settled, rows_after, group_outcome, group_keys, changed, applied, change_key}
use Rattle.tab_ops.specs.Spans.{outcome_in}
use Rattle.tab_ops.specs.declared.groups.OpRefused.{OpRefused}
use Rattle.tab_ops.proofs.GroupLaws.{AreRising-settled, in_one_partition}

same_ok : {rows after : List RowView} → ◌≡◌ {A = Result (List RowView) OpRefused} (Ok rows) (Ok after) → rows ≡ after
same_ok e = cc

-- what holds of a group's keys holds of the keys of its items
items_from_keys : (P : Key → Type 0) (table : ℕ) (items : List ItemView) → All P (group_keys table items) → All (λ item. P (item_key table item)) items
items_from_keys P table [] h = All-nil (λ item. P (item_key table item))
items_from_keys P table (item ∷ items) h =
    All-cons (λ item. P (item_key table item)) item items (All-head P (item_key table item) (group_keys table items) h)
    (items_from_keys P table items (All-tail P (item_key table item) (group_keys table items) h))

changes_from_keys : (P : Key → Type 0) (changes : List Change) → All P (map change_key changes) → All (λ change. P (change_key change)) changes
changes_from_keys P [] h = All-nil (λ change. P (change_key change))
changes_from_keys P (change ∷ changes) h =
    All-cons (λ change. P (change_key change)) change changes (All-head P (change_key change) (map change_key changes) h)
    (changes_from_keys P changes (All-tail P (change_key change) (map change_key changes) h))

-- rows that rise still do after changes
AreRising-changed : (rows : List RowView) (change : Change) → AreRising rows → AreRising (changed rows change)
AreRising-changed rows (Put row) rising = AreRising-with_row rows row rising
AreRising-changed rows (Take key) rising = AreRising-without_row rows key rising

pub AreRising-applied : (rows : List RowView) (changes : List Change) → AreRising rows → AreRising (applied rows changes)
AreRising-applied rows [] rising = rising
AreRising-applied rows (change ∷ changes) rising = AreRising-applied (changed rows change) changes (AreRising-changed rows change rising)

-- ---- a set of keys

module _ (test : Key → Bool) (alike : IsOfKeys test) where
  settled-kept : (rows : List RowView) (key : Key) (tick : ℕ) (outcome : Option EntityView) → test key ≡ true → kept test (settled rows key tick outcome) ≡ settled (kept test rows) key tick outcome
  settled-kept rows key tick (Some entity) inside = with_row-kept test rows (record { key = key; entity = entity; tick = tick }) inside
  settled-kept rows key tick None inside = without_row-kept test rows key

  settled-other : (rows : List RowView) (key : Key) (tick : ℕ) (outcome : Option EntityView) → AreRising rows → test key ≡ false → kept test (settled rows key tick outcome) ≡ kept test rows
  settled-other rows key tick (Some entity) rising outside = with_row-other test alike rows (record { key = key; entity = entity; tick = tick }) rising outside
  settled-other rows key tick None rising outside = without_row-other test alike rows key outside

  changed-kept : (rows : List RowView) (change : Change) → test (change_key change) ≡ true → kept test (changed rows change) ≡ changed (kept test rows) change
  changed-kept rows (Put row) inside = with_row-kept test rows row inside
  changed-kept rows (Take key) inside = without_row-kept test rows key

  changed-other : (rows : List RowView) (change : Change) → AreRising rows → test (change_key change) ≡ false → kept test (changed rows change) ≡ kept test rows
  changed-other rows (Put row) rising outside = with_row-other test alike rows row rising outside
  changed-other rows (Take key) rising outside = without_row-other test alike rows key outside

  -- an outcome's rows at the keys of the set, or its refusal
  abbrev pub outcome_kept : Result (List RowView) OpRefused → Result (List RowView) OpRefused
  outcome_kept (Ok after) = Ok (kept test after)
  outcome_kept (Err why) = Err why

  -- items that act on the set's keys alone
  pub rows_after-kept : (index : ℕ) (rows : List RowView) (table tick : ℕ) (items : List ItemView) → All (λ item. test (item_key table item) ≡ true) items
      → rows_after index (kept test rows) table tick items ≡ outcome_kept (rows_after index rows table tick items)
  rows_after-kept index rows table tick [] inside = refl
  rows_after-kept index rows table tick (item ∷ items) inside =
      let here = All-head (λ item. test (item_key table item) ≡ true) item items inside in
      ap (λ row. outcome_of index row item.op >>= next (kept test rows)) (row_at-kept test alike rows key here)
      ∙ by_case here (λ between. rows_after-kept (index + 1) between table tick items (All-tail (λ item. test (item_key table item) ≡ true) item items inside)) (outcome_of index (row_at rows key) item.op)
    where
      key : Key
      key = item_key table item

      next : List RowView → Option EntityView → Result (List RowView) OpRefused
      next rows outcome = rows_after (index + 1) (settled rows key tick outcome) table tick items

      by_case : test key ≡ true → ((between : List RowView) → rows_after (index + 1) (kept test between) table tick items ≡ outcome_kept (rows_after (index + 1) between table tick items))
          → (o : Result (Option EntityView) OpRefused) → (o >>= next (kept test rows)) ≡ outcome_kept (o >>= next rows)
      by_case here rest (Ok outcome) = ap (λ (between : List RowView). rows_after (index + 1) between table tick items) (sym (settled-kept rows key tick outcome here)) ∙ rest (settled rows key tick outcome)
      by_case here rest (Err why) = refl

  -- items that act on none of them
  pub rows_after-other : (index : ℕ) (rows : List RowView) (table tick : ℕ) (items : List ItemView) (after : List RowView) → AreRising rows → All (λ item. test (item_key table item) ≡ false) items
      → rows_after index rows table tick items ≡ Ok after → kept test after ≡ kept test rows
  rows_after-other index rows table tick [] after rising outside h = ap (kept test) (sym (same_ok h))
  rows_after-other index rows table tick (item ∷ items) after rising outside h =
      by_case (All-head (λ item. test (item_key table item) ≡ false) item items outside)
      (λ between rises. rows_after-other (index + 1) between table tick items after rises (All-tail (λ item. test (item_key table item) ≡ false) item items outside))
      (outcome_of index (row_at rows key) item.op) h
    where
      key : Key
      key = item_key table item

      next : Option EntityView → Result (List RowView) OpRefused
      next outcome = rows_after (index + 1) (settled rows key tick outcome) table tick items

      by_case : test key ≡ false → ((between : List RowView) → AreRising between → rows_after (index + 1) between table tick items ≡ Ok after → kept test after ≡ kept test between)
          → (o : Result (Option EntityView) OpRefused) → (o >>= next) ≡ Ok after → kept test after ≡ kept test rows
      by_case here rest (Ok outcome) e = rest (settled rows key tick outcome) (AreRising-settled rows key tick outcome rising) e ∙ settled-other rows key tick outcome rising here
      by_case here rest (Err why) e = absurd (cc)

  -- items that stand on two lists of rows with the same at the keys of the set leave the same there
  pub rows_after-same : (index : ℕ) (rows others : List RowView) (table tick : ℕ) (items : List ItemView) (after later : List RowView) → AreRising rows → AreRising others → kept test rows ≡ kept test others
      → rows_after index rows table tick items ≡ Ok after → rows_after index others table tick items ≡ Ok later → kept test after ≡ kept test later
  rows_after-same index rows others table tick [] after later rising rises same h k = ap (kept test) (sym (same_ok h)) ∙ (same ∙ ap (kept test) (same_ok k))
  rows_after-same index rows others table tick (item ∷ items) after later rising rises same h k =
      by_case (λ between beside up more alike. rows_after-same (index + 1) between beside table tick items after later up more alike)
      (test key) refl (outcome_of index (row_at rows key) item.op) (outcome_of index (row_at others key) item.op)
      (λ inside. ap (λ row. outcome_of index row item.op) (sym (row_at-kept test alike rows key inside) ∙ (ap (λ (own : List RowView). row_at own key) same ∙ row_at-kept test alike others key inside))) h k
    where
      key : Key
      key = item_key table item

      next : List RowView → Option EntityView → Result (List RowView) OpRefused
      next rows outcome = rows_after (index + 1) (settled rows key tick outcome) table tick items

      one : {a b : Option EntityView} → ◌≡◌ {A = Result (Option EntityView) OpRefused} (Ok a) (Ok b) → a ≡ b
      one e = cc

      by_case : ((between beside : List RowView) → AreRising between → AreRising beside → kept test between ≡ kept test beside
          → rows_after (index + 1) between table tick items ≡ Ok after → rows_after (index + 1) beside table tick items ≡ Ok later → kept test after ≡ kept test later)
          → (t : Bool) → test key ≡ t → (o u : Result (Option EntityView) OpRefused) → (test key ≡ true → o ≡ u) → (o >>= next rows) ≡ Ok after → (u >>= next others) ≡ Ok later → kept test after ≡ kept test later
      by_case rest true e (Ok a) (Ok b) agree f g =
          let made : a ≡ b = one (agree e) in
          rest (settled rows key tick a) (settled others key tick b) (AreRising-settled rows key tick a rising) (AreRising-settled others key tick b rises)
          (settled-kept rows key tick a e ∙ ((λ i. settled (same i) key tick (made i)) ∙ sym (settled-kept others key tick b e))) f g
      by_case rest false e (Ok a) (Ok b) agree f g =
          rest (settled rows key tick a) (settled others key tick b) (AreRising-settled rows key tick a rising) (AreRising-settled others key tick b rises)
          (settled-other rows key tick a rising e ∙ (same ∙ sym (settled-other others key tick b rises e))) f g
      by_case rest t e (Err why) u agree f g = absurd (cc)
      by_case rest t e (Ok a) (Err why) agree f g = absurd (cc)

  -- changes of the set's keys alone, and of none of them
  pub applied-kept : (rows : List RowView) (changes : List Change) → All (λ change. test (change_key change) ≡ true) changes → applied (kept test rows) changes ≡ kept test (applied rows changes)
  applied-kept rows [] inside = refl
  applied-kept rows (change ∷ changes) inside =
      ap (λ (between : List RowView). applied between changes) (sym (changed-kept rows change (All-head (λ change. test (change_key change) ≡ true) change changes inside)))
      ∙ applied-kept (changed rows change) changes (All-tail (λ change. test (change_key change) ≡ true) change changes inside)

  pub applied-other : (rows : List RowView) (changes : List Change) → AreRising rows → All (λ change. test (change_key change) ≡ false) changes → kept test (applied rows changes) ≡ kept test rows
  applied-other rows [] rising outside = refl
  applied-other rows (change ∷ changes) rising outside =
      applied-other (changed rows change) changes (AreRising-changed rows change rising) (All-tail (λ change. test (change_key change) ≡ false) change changes outside)
      ∙ changed-other rows change rising (All-head (λ change. test (change_key change) ≡ false) change changes outside)

-- ---- a span

-- a group's keys lie in each span that has one of them
pub keys_in_one_span : (span : Interval) (table : ℕ) (first : ItemView) (items : List ItemView) → group_refusal (first ∷ items) ≡ None → IsTrue (has span (item_key table first))
    → All (λ key. IsTrue (has span key)) (group_keys table (first ∷ items))
keys_in_one_span span table first items allowed inside =
    All-cons (λ key. IsTrue (has span key)) (item_key table first) (group_keys table items) inside (each items (in_one_partition first items allowed))
  where
    each : (items : List ItemView) → All (λ item. item.pk ≡ first.pk) items → All (λ key. IsTrue (has span key)) (group_keys table items)
    each [] h = All-nil (λ key. IsTrue (has span key))
    each (item ∷ items) h =
        All-cons (λ key. IsTrue (has span key)) (item_key table item) (group_keys table items)
        (has_partition span (item_key table item) (item_key table first) refl (All-head (λ item. item.pk ≡ first.pk) item items h) ∙ inside)
        (each items (All-tail (λ item. item.pk ≡ first.pk) item items h))

-- nor in one that lacks one of them
pub keys_in_no_other : (span : Interval) (table : ℕ) (first : ItemView) (items : List ItemView) → group_refusal (first ∷ items) ≡ None → IsFalse (has span (item_key table first))
    → All (λ key. IsFalse (has span key)) (group_keys table (first ∷ items))
keys_in_no_other span table first items allowed outside =
    All-cons (λ key. IsFalse (has span key)) (item_key table first) (group_keys table items) outside (each items (in_one_partition first items allowed))
  where
    each : (items : List ItemView) → All (λ item. item.pk ≡ first.pk) items → All (λ key. IsFalse (has span key)) (group_keys table items)
    each [] h = All-nil (λ key. IsFalse (has span key))
    each (item ∷ items) h =
        All-cons (λ key. IsFalse (has span key)) (item_key table item) (group_keys table items)
        (has_partition span (item_key table item) (item_key table first) refl (All-head (λ item. item.pk ≡ first.pk) item items h) ∙ outside)
        (each items (All-tail (λ item. item.pk ≡ first.pk) item items h))

outcome_is : (span : Interval) (outcome : Result (List RowView) OpRefused) → outcome_kept (has span) (has_alike span) outcome ≡ outcome_in span outcome
outcome_is span (Ok after) = refl
outcome_is span (Err why) = refl

-- a group whose keys lie in a span
pub group_in : (span : Interval) (rows : List RowView) (table tick : ℕ) (group : List ItemView) → All (λ key. IsTrue (has span key)) (group_keys table group)
    → group_outcome (rows_in span rows) table tick group ≡ outcome_in span (group_outcome rows table tick group)
group_in span rows table tick group inside =
    rows_after-kept (has span) (has_alike span) 0 rows table tick group (items_from_keys (λ key. IsTrue (has span key)) table group inside)
    ∙ outcome_is span (group_outcome rows table tick group)

-- so what stands on the span's rows stands on all rows, and what is refused is refused
pub record StandsOnAll (span : Interval) (rows own : List RowView) (table tick : ℕ) (group : List ItemView) : Type 0 where
  pub after : List RowView
  pub stands : group_outcome rows table tick group ≡ Ok after
  pub part : rows_in span after ≡ own

pub group_stands : (span : Interval) (rows own : List RowView) (table tick : ℕ) (group : List ItemView) → All (λ key. IsTrue (has span key)) (group_keys table group)
    → group_outcome (rows_in span rows) table tick group ≡ Ok own → StandsOnAll span rows own table tick group
group_stands span rows own table tick group inside h = by_case (group_outcome rows table tick group) refl (sym (group_in span rows table tick group inside) ∙ h)
  where
    by_case : (outcome : Result (List RowView) OpRefused) → group_outcome rows table tick group ≡ outcome → outcome_in span outcome ≡ Ok own → StandsOnAll span rows own table tick group
    by_case (Ok after) e k = record { after = after; stands = e; part = same_ok k }
    by_case (Err why) e k = absurd (cc)

pub group_refused : (span : Interval) (rows : List RowView) (table tick : ℕ) (group : List ItemView) (why : OpRefused) → All (λ key. IsTrue (has span key)) (group_keys table group)
    → group_outcome (rows_in span rows) table tick group ≡ Err why → group_outcome rows table tick group ≡ Err why
group_refused span rows table tick group why inside h = by_case (group_outcome rows table tick group) refl (sym (group_in span rows table tick group inside) ∙ h)
  where
    by_case : (outcome : Result (List RowView) OpRefused) → group_outcome rows table tick group ≡ outcome → outcome_in span outcome ≡ Err why → group_outcome rows table tick group ≡ Err why
    by_case (Ok after) e k = absurd (cc)
    by_case (Err other) e k = e ∙ k

pub group_beside : (span : Interval) (rows after : List RowView) (table tick : ℕ) (group : List ItemView) → AreRising rows → All (λ key. IsTrue (has span key)) (group_keys table group)
    → group_outcome rows table tick group ≡ Ok after → rows_beside span after ≡ rows_beside span rows
group_beside span rows after table tick group rising inside h =
    rows_after-other (λ key. not (has span key)) (beside_alike span) 0 rows table tick group after rising
    (All-weaker (λ item. IsTrue (has span (item_key table item))) (λ item. not (has span (item_key table item)) ≡ false) (λ item k. ap not k) group (items_from_keys (λ key. IsTrue (has span key)) table group inside)) h

-- and one none of whose keys do
pub group_elsewhere : (span : Interval) (rows after : List RowView) (table tick : ℕ) (group : List ItemView) → AreRising rows → All (λ key. IsFalse (has span key)) (group_keys table group)
    → group_outcome rows table tick group ≡ Ok after → rows_in span after ≡ rows_in span rows
group_elsewhere span rows after table tick group rising outside h =
    rows_after-other (has span) (has_alike span) 0 rows table tick group after rising (items_from_keys (λ key. IsFalse (has span key)) table group outside) h

-- a group that stands on two lists of rows with the same in a span leaves the same there, wherever its keys lie
pub group_same : (span : Interval) (rows others after later : List RowView) (table tick : ℕ) (group : List ItemView) → AreRising rows → AreRising others → rows_in span rows ≡ rows_in span others
    → group_outcome rows table tick group ≡ Ok after → group_outcome others table tick group ≡ Ok later → rows_in span after ≡ rows_in span later
group_same span rows others after later table tick group rising rises same h k = rows_after-same (has span) (has_alike span) 0 rows others table tick group after later rising rises same h k

-- changes whose keys lie in a span
pub applied_in : (span : Interval) (rows : List RowView) (changes : List Change) → All (λ key. IsTrue (has span key)) (map change_key changes) → applied (rows_in span rows) changes ≡ rows_in span (applied rows changes)
applied_in span rows changes inside = applied-kept (has span) (has_alike span) rows changes (changes_from_keys (λ key. IsTrue (has span key)) changes inside)

-- and changes none of whose keys do
pub applied_elsewhere : (span : Interval) (rows : List RowView) (changes : List Change) → AreRising rows → All (λ key. IsFalse (has span key)) (map change_key changes) → rows_in span (applied rows changes) ≡ rows_in span rows
applied_elsewhere span rows changes rising outside = applied-other (has span) (has_alike span) rows changes rising (changes_from_keys (λ key. IsFalse (has span key)) changes outside)
