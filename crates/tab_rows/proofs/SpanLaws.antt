-- The rows at the keys of a span, or of any set of keys: look-ups and changes there are those among all rows, and changes
-- elsewhere leave them as they are.
use Rattle.std.proofs.Common.{◌≡◌, ℕ, List, [], ◌∷◌, ◌++◌, Bool, true, false, not, ◌&&◌, ◌||◌, filter, All, refl, sym, ap, ◌∙◌}
use Rattle.std.specs.Prelude.{IsTrue}
use Rattle.std.specs.Ordering.{is_lt, nat_cmp, ordering_then}
use Rattle.std.proofs.lemmas.Bool.{true≢false, and_parts}
use Rattle.std.proofs.lemmas.List.Elements.{filter_passes, filter-append}
use Rattle.std.proofs.lemmas.List.Kept.{AllPairs-filter}
use Rattle.tab_keys.specs.Order.{text_cmp, key_lt, same_key, is_before, bound_lt}
use Rattle.tab_keys.specs.Spans.{Interval, has}
use Rattle.tab_keys.specs.declared.keys.Key.{Key}
use Rattle.tab_keys.specs.declared.bounds.Bound.{Bound}
use Rattle.tab_keys.specs.declared.bounds.Bound.TheVariants.{At, End}
use Rattle.tab_keys.proofs.OrderLaws.{is_before_alike, is_before_At, is_before_below, is_before_not_earlier}
use Rattle.tab_rows.specs.Rows.{RowView, AreRising, row_at, with_row, without_row, rows_from}
use Rattle.tab_rows.specs.Spans.{rows_in}
use Rattle.tab_rows.proofs.Lists.{filter_all, find-filter, filter-filter}
use Rattle.tab_rows.proofs.RowLaws.{or_from_apart, above_iff, rows_at_key, rows_cut}

-- ---- sets of keys

-- a set of keys has a key where it has one that no order tells apart from it
abbrev pub IsOfKeys : (Key → Bool) → Type 0
IsOfKeys test = (a b : Key) → same_key a b ≡ true → test a ≡ test b

pub has_alike : (span : Interval) → IsOfKeys (has span)
has_alike span a b same = rw (is_before_alike a b span.lo same, is_before_alike a b span.hi same) refl

pub beside_alike : (span : Interval) → IsOfKeys (λ key. not (has span key))
beside_alike span a b same = ap not (has_alike span a b same)

-- bounds stand before whole partitions, so a span has all keys of a partition or none
is_before_partition : (a b : Key) (bound : Bound) → a.table ≡ b.table → a.pk ≡ b.pk → is_before a bound ≡ is_before b bound
is_before_partition a b (At table pk) e f =
    is_before_At a table pk
    ∙ (ap (λ (number : ℕ). is_lt (ordering_then (nat_cmp number table) (text_cmp a.pk pk))) e
    ∙ (ap (λ (text : List ℕ). is_lt (ordering_then (nat_cmp b.table table) (text_cmp text pk))) f ∙ sym (is_before_At b table pk)))
is_before_partition a b End e f = refl

pub has_partition : (span : Interval) (a b : Key) → a.table ≡ b.table → a.pk ≡ b.pk → has span a ≡ has span b
has_partition span a b e f = rw (is_before_partition a b span.lo e f, is_before_partition a b span.hi e f) refl

-- filters may change places
pub filter-turned : {X : Type 0} (p q : X → Bool) (xs : List X) → filter p (filter q xs) ≡ filter q (filter p xs)
filter-turned p q [] = refl
filter-turned {X} p q (x ∷ xs) = by_test (filter-turned p q xs) (p x) (q x) refl refl
  where
    by_test : filter p (filter q xs) ≡ filter q (filter p xs) → (b c : Bool) → p x ≡ b → q x ≡ c → filter p (filter q (x ∷ xs)) ≡ filter q (filter p (x ∷ xs))
    by_test rest true true e f = rw (e, f, e) (ap (λ ys. x ∷ ys) rest)
    by_test rest true false e f = rw (e, f) rest
    by_test rest false true e f = rw (e, f, e) rest
    by_test rest false false e f = rw (e, f) rest

-- and two that agree where a third passes leave the same of what that one leaves
filters_alike : {X : Type 0} (own p q : X → Bool) → ((x : X) → own x ≡ true → p x ≡ q x) → (xs : List X) → filter own (filter p xs) ≡ filter own (filter q xs)
filters_alike own p q same [] = refl
filters_alike {X} own p q same (x ∷ xs) = by_test (filters_alike own p q same xs) (own x) (p x) (q x) refl refl refl
  where
    by_test : filter own (filter p xs) ≡ filter own (filter q xs) → (a b c : Bool) → own x ≡ a → p x ≡ b → q x ≡ c → filter own (filter p (x ∷ xs)) ≡ filter own (filter q (x ∷ xs))
    by_test rest true true true e f g = rw (f, g, e) (ap (λ ys. x ∷ ys) rest)
    by_test rest true true false e f g = absurd (true≢false (sym f ∙ (same x e ∙ g)))
    by_test rest true false true e f g = absurd (true≢false (sym g ∙ (sym (same x e) ∙ f)))
    by_test rest false true true e f g = rw (f, g, e) rest
    by_test rest false true false e f g = rw (f, g, e) rest
    by_test rest false false true e f g = rw (f, g, e) rest
    by_test rest a false false e f g = rw (f, g) rest

module _ (test : Key → Bool) where
  -- the rows at the keys of the set
  abbrev pub kept : List RowView → List RowView
  kept rows = filter (λ row. test row.key) rows

  pub AreRising-kept : (rows : List RowView) → AreRising rows → AreRising (kept rows)
  AreRising-kept rows rising = AllPairs-filter (λ a b. IsTrue (key_lt a.key b.key)) (λ row. test row.key) rows rising

  -- a change of one of the set's keys makes of its rows what it makes of them among all
  pub with_row-kept : (rows : List RowView) (row : RowView) → test row.key ≡ true → kept (with_row rows row) ≡ with_row (kept rows) row
  unfolding with_row
  with_row-kept rows row inside =
      let own = λ (other : RowView). test other.key in
      let below = λ (other : RowView). key_lt other.key row.key in
      let above = λ (other : RowView). key_lt row.key other.key in
      let here : filter own (row ∷ filter above rows) ≡ row ∷ filter own (filter above rows) = rw inside refl in
      filter-append own (filter below rows) (row ∷ filter above rows)
      ∙ (ap (λ back. filter own (filter below rows) ++ back) (here ∙ ap (λ back. row ∷ back) (filter-turned own above rows))
      ∙ ap (λ front. front ++ row ∷ filter above (filter own rows)) (filter-turned own below rows))

  pub without_row-kept : (rows : List RowView) (key : Key) → kept (without_row rows key) ≡ without_row (kept rows) key
  unfolding without_row
  without_row-kept rows key = filter-turned (λ row. test row.key) (λ row. key_lt row.key key || key_lt key row.key) rows

  module _ (alike : IsOfKeys test) where
    -- at one of the set's keys stands the same as among all rows
    pub row_at-kept : (rows : List RowView) (key : Key) → test key ≡ true → row_at (kept rows) key ≡ row_at rows key
    unfolding row_at
    row_at-kept rows key inside = find-filter (λ row. same_key row.key key) (λ row. test row.key) (λ row same. alike row.key key same ∙ inside) rows

    -- a row at one of the set's keys is told apart from each other key
    kept_apart : (own other : Key) → test other ≡ false → test own ≡ true → same_key own other ≡ false
    kept_apart own other outside inside = by_test (same_key own other) refl
      where
        by_test : (t : Bool) → same_key own other ≡ t → same_key own other ≡ false
        by_test true e = absurd (true≢false (sym inside ∙ (alike own other e ∙ outside)))
        by_test false e = e

    -- a change of another key leaves the set's rows
    pub without_row-other : (rows : List RowView) (key : Key) → test key ≡ false → kept (without_row rows key) ≡ kept rows
    unfolding without_row
    without_row-other rows key outside =
        filter-filter (λ row. test row.key) (λ row. key_lt row.key key || key_lt key row.key)
        (λ row inside. or_from_apart row.key key (kept_apart row.key key outside inside)) rows

    pub with_row-other : (rows : List RowView) (row : RowView) → AreRising rows → test row.key ≡ false → kept (with_row rows row) ≡ kept rows
    unfolding with_row rows_from
    with_row-other rows row rising outside =
        let own = λ (other : RowView). test other.key in
        let below = λ (other : RowView). key_lt other.key row.key in
        let above = λ (other : RowView). key_lt row.key other.key in
        let none : filter own (row ∷ filter above rows) ≡ filter own (filter above rows) = rw outside refl in
        let parts : rows ≡ filter below rows ++ filter (λ other. not (below other)) rows = rows_at_key rows row.key rising in
        let behind : filter own (filter above rows) ≡ filter own (filter (λ other. not (below other)) rows) =
        filters_alike own above (λ other. not (below other)) (λ other inside. above_iff other.key row.key (kept_apart other.key row.key outside inside)) rows in
        filter-append own (filter below rows) (row ∷ filter above rows)
        ∙ (ap (λ back. filter own (filter below rows) ++ back) (none ∙ behind)
        ∙ (sym (filter-append own (filter below rows) (filter (λ other. not (below other)) rows)) ∙ ap (filter own) (sym parts)))

-- ---- a span

-- at a key of a span stands the same among the span's rows as among all
pub row_at-in : (span : Interval) (rows : List RowView) (key : Key) → IsTrue (has span key) → row_at (rows_in span rows) key ≡ row_at rows key
row_at-in span rows key inside = row_at-kept (has span) (has_alike span) rows key inside

-- a span's rows lie in it
pub All-rows_in : (span : Interval) (rows : List RowView) → All (λ row. IsTrue (has span row.key)) (rows_in span rows)
All-rows_in span rows = filter_passes (λ row. has span row.key) rows

-- rows that lie in a span are its rows
pub rows_in-all : (span : Interval) (rows : List RowView) → All (λ row. IsTrue (has span row.key)) rows → rows_in span rows ≡ rows
rows_in-all span rows inside = filter_all (λ row. has span row.key) rows inside

-- ---- spans within others, and side by side

-- the one span begins no earlier and ends no later
is_within : (inner outer : Interval) (key : Key) → bound_lt inner.lo outer.lo ≡ false → bound_lt outer.hi inner.hi ≡ false → has inner key ≡ true → has outer key ≡ true
is_within inner outer key first last inside = by_test (is_before key outer.lo) refl
  where
    parts : (not (is_before key inner.lo) ≡ true) × (is_before key inner.hi ≡ true)
    parts = and_parts (not (is_before key inner.lo)) (is_before key inner.hi) inside

    by_test : (t : Bool) → is_before key outer.lo ≡ t → has outer key ≡ true
    by_test true e = absurd (true≢false (sym parts.0 ∙ ap not (is_before_not_earlier key outer.lo inner.lo first e)))
    by_test false e = rw (e, is_before_not_earlier key inner.hi outer.hi last parts.1) refl

-- then its rows are those among the other's
pub rows_in-within : (inner outer : Interval) (rows : List RowView) → bound_lt inner.lo outer.lo ≡ false → bound_lt outer.hi inner.hi ≡ false → rows_in inner (rows_in outer rows) ≡ rows_in inner rows
rows_in-within inner outer rows first last = filter-filter (λ row. has inner row.key) (λ row. has outer row.key) (λ row inside. is_within inner outer row.key first last inside) rows

filter_both : {X : Type 0} (p q r : X → Bool) → ((x : X) → (q x && p x) ≡ r x) → (xs : List X) → filter p (filter q xs) ≡ filter r xs
filter_both p q r both [] = refl
filter_both {X} p q r both (x ∷ xs) = by_test (filter_both p q r both xs) (q x) (p x) refl refl (both x)
  where
    by_test : filter p (filter q xs) ≡ filter r xs → (b c : Bool) → q x ≡ b → p x ≡ c → (q x && p x) ≡ r x → filter p (filter q (x ∷ xs)) ≡ filter r (x ∷ xs)
    by_test rest true true e f g = let h : r x ≡ true = sym g ∙ rw (e, f) refl in rw (e, f, h) (ap (λ ys. x ∷ ys) rest)
    by_test rest true false e f g = let h : r x ≡ false = sym g ∙ rw (e, f) refl in rw (e, f, h) rest
    by_test rest false c e f g = let h : r x ≡ false = sym g ∙ rw e refl in rw (e, h) rest

front_test : (low high middle : Bool) → (middle ≡ true → high ≡ true) → ((not low && high) && middle) ≡ (not low && middle)
front_test true high middle h = refl
front_test false true middle h = refl
front_test false false true h = h refl
front_test false false false h = refl

back_test : (low high middle : Bool) → (low ≡ true → middle ≡ true) → ((not low && high) && not middle) ≡ (not middle && high)
back_test true high true h = refl
back_test true high false h = absurd (true≢false (sym (h refl)))
back_test false true middle h = and_true (not middle)
  where
    and_true : (t : Bool) → t ≡ (t && true)
    and_true true = refl
    and_true false = refl
back_test false false true h = refl
back_test false false false h = refl

-- a span's rows are those of its parts below and above a bound in it, one after another
pub rows_in-joined : (lo middle hi : Bound) (rows : List RowView) → AreRising rows → bound_lt middle lo ≡ false → bound_lt hi middle ≡ false
    → rows_in (record { lo = lo; hi = hi }) rows ≡ rows_in (record { lo = lo; hi = middle }) rows ++ rows_in (record { lo = middle; hi = hi }) rows
rows_in-joined lo middle hi rows rising first last =
    let whole : Interval = record { lo = lo; hi = hi } in
    let lower : Interval = record { lo = lo; hi = middle } in
    let upper : Interval = record { lo = middle; hi = hi } in
    let below = λ (row : RowView). is_before row.key middle in
    rows_cut below (λ a b less before. is_before_below a.key b.key middle less before) (rows_in whole rows) (AreRising-kept (has whole) rows rising)
    ∙ (ap (λ front. front ++ filter (λ row. not (below row)) (rows_in whole rows))
    (filter_both below (λ row. has whole row.key) (λ row. has lower row.key) (λ row. front_test (is_before row.key lo) (is_before row.key hi) (is_before row.key middle) (is_before_not_earlier row.key middle hi last)) rows)
    ∙ ap (λ back. rows_in lower rows ++ back)
    (filter_both (λ row. not (below row)) (λ row. has whole row.key) (λ row. has upper row.key) (λ row. back_test (is_before row.key lo) (is_before row.key hi) (is_before row.key middle) (is_before_not_earlier row.key lo middle first)) rows))
