-- Laws of ordered rows: what stands at each key after a row is put or taken out, and that the keys still rise.
use Rattle.std.proofs.Common.{◌≡◌, ℕ, ◌+◌, List, [], ◌∷◌, ◌++◌, Ordering, Bool, true, false, cond, not, ◌↔◌, ◌||◌, is_eq, is_lt, length, get_or, take, drop, filter, refl, sym, ap, ◌∙◌, subst, arith}
use Rattle.std.specs.Prelude.{Some, None, find, All, IsTrue}
use Rattle.std.proofs.lemmas.Bool.{true≢false}
use Rattle.std.proofs.lemmas.List.{append-nil, length-append, take-append-drop}
use Rattle.std.proofs.lemmas.Option.{none-some, same_Some}
use Rattle.std.proofs.lemmas.List.Elements.{All-nil, All-cons, All-head, All-append, All-filter, All-weaker, filter_passes, filter-append, filter_agree}
use Rattle.std.proofs.lemmas.List.Kept.{AllPairs-cons, AllPairs-filter}
use Rattle.std.specs.Ordering.{nat_cmp, ordering_then}
use Rattle.std.specs.declared.cmp.Ordering.TheVariants.{Less, Equal, Greater}
use Rattle.std.proofs.lemmas.Cmp.{tied_itself}
use Rattle.tab_keys.specs.TotalOrders.{text_cmp_total}
use Rattle.tab_keys.specs.Order.{text_cmp, key_cmp, key_lt, same_key, head_key, is_before}
use Rattle.tab_keys.specs.declared.bounds.Bound.TheVariants.{At}
use Rattle.tab_keys.specs.declared.keys.Key.{Key}
use Rattle.tab_keys.proofs.OrderLaws.{Less_from_is_lt, key_lt_transitive, key_lt_asymmetric, same_key_between, same_key_equivalence, key_lt_alike_left, key_lt_alike_right, same_key_not_lt, key_lt_to_le, key_lt_across, key_cmp_heads, is_before_At, is_before_own_bound}
use Rattle.tab_rows.specs.Rows.{RowView, AreRising, row_at, with_row, without_row, rows_from, rows_past, is_past}
use Rattle.tab_rows.proofs.Lists.{filter_all, filter_none, find_none, All-from_find_none, filter_front, filter_back, find_behind, find-filter, filter-filter, find_below, find_above, length-filters, AllPairs-head, AllPairs-tail, AllPairs-append, All-split}

-- ---- keys that are apart

pub same_key_sym : (a b : Key) → same_key a b ≡ true → same_key b a ≡ true
same_key_sym a b h = same_key_equivalence.symm b a ∙ h

pub same_key_itself : (a : Key) → same_key a a ≡ true
same_key_itself = same_key_equivalence.refl

pub apart_below : (a b : Key) → key_lt a b ≡ true → same_key a b ≡ false
apart_below a b h = ap is_eq (Less_from_is_lt (key_cmp a b) h)

pub apart_above : (a b : Key) → key_lt b a ≡ true → same_key a b ≡ false
apart_above a b h = same_key_equivalence.symm a b ∙ apart_below b a h

-- ---- rows below a key, and rows above it

-- the rows are below the key
abbrev pub AllBelow : List RowView → Key → Type 0
AllBelow rows key = All (λ row. IsTrue (key_lt row.key key)) rows

-- the rows are above the key
abbrev pub AllAbove : List RowView → Key → Type 0
AllAbove rows key = All (λ row. IsTrue (key_lt key row.key)) rows

not_above : (rows : List RowView) (key : Key) → AllBelow rows key → All (λ row. key_lt key row.key ≡ false) rows
not_above rows key = All-weaker (λ row. IsTrue (key_lt row.key key)) (λ row. key_lt key row.key ≡ false) (λ row h. key_lt_asymmetric row.key key h) rows

not_below : (rows : List RowView) (key : Key) → AllAbove rows key → All (λ row. key_lt row.key key ≡ false) rows
not_below rows key = All-weaker (λ row. IsTrue (key_lt key row.key)) (λ row. key_lt row.key key ≡ false) (λ row h. key_lt_asymmetric key row.key h) rows

none_below : (rows : List RowView) (key : Key) → AllBelow rows key → All (λ row. same_key row.key key ≡ false) rows
none_below rows key = All-weaker (λ row. IsTrue (key_lt row.key key)) (λ row. same_key row.key key ≡ false) (λ row h. apart_below row.key key h) rows

none_above : (rows : List RowView) (key : Key) → AllAbove rows key → All (λ row. same_key row.key key ≡ false) rows
none_above rows key = All-weaker (λ row. IsTrue (key_lt key row.key)) (λ row. same_key row.key key ≡ false) (λ row h. apart_above row.key key h) rows

below_apart : (rows : List RowView) (key : Key) → AllBelow rows key → All (λ row. (key_lt row.key key || key_lt key row.key) ≡ true) rows
below_apart rows key = All-weaker (λ row. IsTrue (key_lt row.key key)) (λ row. (key_lt row.key key || key_lt key row.key) ≡ true) (λ row h. rw h refl) rows

above_apart : (rows : List RowView) (key : Key) → AllAbove rows key → All (λ row. (key_lt row.key key || key_lt key row.key) ≡ true) rows
above_apart rows key = All-weaker (λ row. IsTrue (key_lt key row.key)) (λ row. (key_lt row.key key || key_lt key row.key) ≡ true) (λ row h. let l : key_lt row.key key ≡ false = key_lt_asymmetric key row.key h in rw (l, h) refl) rows

above_from : (rows : List RowView) (key : Key) → AllAbove rows key → All (λ row. not (key_lt row.key key) ≡ true) rows
above_from rows key = All-weaker (λ row. IsTrue (key_lt key row.key)) (λ row. not (key_lt row.key key) ≡ true) (λ row h. ap not (key_lt_asymmetric key row.key h)) rows

below_from : (rows : List RowView) (key : Key) → AllBelow rows key → All (λ row. not (key_lt row.key key) ≡ false) rows
below_from rows key = All-weaker (λ row. IsTrue (key_lt row.key key)) (λ row. not (key_lt row.key key) ≡ false) (λ row h. ap not h) rows

-- ---- rows in two parts: those below a key and those above it

pub with_row-between : (front back : List RowView) (row : RowView) → AllBelow front row.key → AllAbove back row.key → with_row (front ++ back) row ≡ front ++ row ∷ back
unfolding with_row
with_row-between front back row h k =
    ap (λ xs. xs ++ row ∷ filter (λ other. key_lt row.key other.key) (front ++ back)) (filter_front (λ other. key_lt other.key row.key) front back h (not_below back row.key k))
    ∙ ap (λ xs. front ++ row ∷ xs) (filter_back (λ other. key_lt row.key other.key) front back (not_above front row.key h) k)

pub row_at-between : (front back : List RowView) (key : Key) → AllBelow front key → AllAbove back key → row_at (front ++ back) key ≡ None
unfolding row_at
row_at-between front back key h k =
    find_none (λ row. same_key row.key key) (front ++ back)
    (All-append (λ row. same_key row.key key ≡ false) front back (none_below front key h) (none_above back key k))

pub without_row-between : (front back : List RowView) (key : Key) → AllBelow front key → AllAbove back key → without_row (front ++ back) key ≡ front ++ back
unfolding without_row
without_row-between front back key h k =
    filter_all (λ row. key_lt row.key key || key_lt key row.key) (front ++ back)
    (All-append (λ row. (key_lt row.key key || key_lt key row.key) ≡ true) front back (below_apart front key h) (above_apart back key k))

pub rows_from-between : (front back : List RowView) (key : Key) → AllBelow front key → AllAbove back key → rows_from (front ++ back) key ≡ back
unfolding rows_from
rows_from-between front back key h k =
    filter_back (λ row. not (key_lt row.key key)) front back (below_from front key h) (above_from back key k)

-- ---- rows in three parts: those below a key, the one at it, and those above it

pub with_row-over : (front : List RowView) (old : RowView) (back : List RowView) (row : RowView) → AllBelow front row.key → IsTrue (same_key old.key row.key) → AllAbove back row.key → with_row (front ++ old ∷ back) row ≡ front ++ row ∷ back
unfolding with_row
with_row-over front old back row h e k =
    let low : key_lt old.key row.key ≡ false = same_key_not_lt old.key row.key e in
    let high : key_lt row.key old.key ≡ false = same_key_not_lt row.key old.key (same_key_sym old.key row.key e) in
    let below = λ (other : RowView). key_lt other.key row.key in
    let above = λ (other : RowView). key_lt row.key other.key in
    let fails : filter below (old ∷ back) ≡ [] = filter_none below (old ∷ back) (All-cons (λ other. below other ≡ false) old back low (not_below back row.key k)) in
    let passes : filter above (old ∷ back) ≡ back = rw high (filter_all above back k) in
    ap (λ xs. xs ++ row ∷ filter above (front ++ old ∷ back)) (filter-append below front (old ∷ back) ∙ (ap (λ xs. xs ++ filter below (old ∷ back)) (filter_all below front h) ∙ (ap (λ xs. front ++ xs) fails ∙ append-nil front)))
    ∙ ap (λ xs. front ++ row ∷ xs) (filter-append above front (old ∷ back) ∙ (ap (λ xs. xs ++ filter above (old ∷ back)) (filter_none above front (not_above front row.key h)) ∙ passes))

pub row_at-over : (front : List RowView) (old : RowView) (back : List RowView) (key : Key) → AllBelow front key → IsTrue (same_key old.key key) → row_at (front ++ old ∷ back) key ≡ Some old
unfolding row_at
row_at-over front old back key h e = find_behind (λ row. same_key row.key key) front old back (none_below front key h) e

pub without_row-over : (front : List RowView) (old : RowView) (back : List RowView) (key : Key) → AllBelow front key → IsTrue (same_key old.key key) → AllAbove back key → without_row (front ++ old ∷ back) key ≡ front ++ back
unfolding without_row
without_row-over front old back key h e k =
    let apart = λ (row : RowView). key_lt row.key key || key_lt key row.key in
    let low : key_lt old.key key ≡ false = same_key_not_lt old.key key e in
    let high : key_lt key old.key ≡ false = same_key_not_lt key old.key (same_key_sym old.key key e) in
    let passes : filter apart (old ∷ back) ≡ back = rw (low, high) (filter_all apart back (above_apart back key k)) in
    filter-append apart front (old ∷ back) ∙ (ap (λ xs. xs ++ filter apart (old ∷ back)) (filter_all apart front (below_apart front key h)) ∙ ap (λ xs. front ++ xs) passes)

pub rows_from-over : (front : List RowView) (old : RowView) (back : List RowView) (key : Key) → AllBelow front key → IsTrue (same_key old.key key) → AllAbove back key → rows_from (front ++ old ∷ back) key ≡ old ∷ back
unfolding rows_from
rows_from-over front old back key h e k =
    filter_back (λ row. not (key_lt row.key key)) front (old ∷ back) (below_from front key h)
    (All-cons (λ row. not (key_lt row.key key) ≡ true) old back (ap not (same_key_not_lt old.key key e)) (above_from back key k))

-- ---- what stands after a row is put or taken out

all_below : (rows : List RowView) (key : Key) → AllBelow (filter (λ other. key_lt other.key key) rows) key
all_below rows key = filter_passes (λ other. key_lt other.key key) rows

all_above : (rows : List RowView) (key : Key) → AllAbove (filter (λ other. key_lt key other.key) rows) key
all_above rows key = filter_passes (λ other. key_lt key other.key) rows

-- the keys still rise after a row is put
pub AreRising-with_row : (rows : List RowView) (row : RowView) → AreRising rows → AreRising (with_row rows row)
unfolding with_row
AreRising-with_row rows row rising =
    let R = λ (a b : RowView). IsTrue (key_lt a.key b.key) in
    let front = filter (λ (other : RowView). key_lt other.key row.key) rows in
    let back = filter (λ (other : RowView). key_lt row.key other.key) rows in
    let above : All (R row) back = all_above rows row.key in
    let below : All (λ other. R other row) front = all_below rows row.key in
    AllPairs-append R front (row ∷ back) (AllPairs-filter R (λ other. key_lt other.key row.key) rows rising)
    (AllPairs-cons R row back above (AllPairs-filter R (λ other. key_lt row.key other.key) rows rising))
    (All-weaker (λ other. R other row) (λ other. All (R other) (row ∷ back)) (λ other h. All-cons (R other) row back h (All-weaker (R row) (R other) (λ later k. key_lt_transitive other.key row.key later.key h k) back above)) front below)

-- the keys still rise after a row is taken out
pub AreRising-without_row : (rows : List RowView) (key : Key) → AreRising rows → AreRising (without_row rows key)
unfolding without_row
AreRising-without_row rows key rising = AllPairs-filter (λ a b. IsTrue (key_lt a.key b.key)) (λ other. key_lt other.key key || key_lt key other.key) rows rising

-- the row that was put stands at its key
pub row_at-with_row : (rows : List RowView) (row : RowView) → row_at (with_row rows row) row.key ≡ Some row
unfolding row_at with_row
row_at-with_row rows row =
    let front = filter (λ (other : RowView). key_lt other.key row.key) rows in
    let back = filter (λ (other : RowView). key_lt row.key other.key) rows in
    find_behind (λ other. same_key other.key row.key) front row back (none_below front row.key (all_below rows row.key)) (same_key_itself row.key)

-- what holds of all rows and of a row holds of all after the row is put
pub All-with_row : (P : RowView → Type 0) (rows : List RowView) (row : RowView) → All P rows → P row → All P (with_row rows row)
unfolding with_row
All-with_row P rows row h k =
    let front = filter (λ (other : RowView). key_lt other.key row.key) rows in
    let back = filter (λ (other : RowView). key_lt row.key other.key) rows in
    All-append P front (row ∷ back) (All-filter (λ other. key_lt other.key row.key) P rows h) (All-cons P row back k (All-filter (λ other. key_lt row.key other.key) P rows h))

pub All-without_row : (P : RowView → Type 0) (rows : List RowView) (key : Key) → All P rows → All P (without_row rows key)
unfolding without_row
All-without_row P rows key h = All-filter (λ other. key_lt other.key key || key_lt key other.key) P rows h

apart_from_or : (a b : Key) → (key_lt a b || key_lt b a) ≡ true → same_key a b ≡ false
apart_from_or a b h = by_test (key_lt a b) refl
  where
    by_test : (t : Bool) → key_lt a b ≡ t → same_key a b ≡ false
    by_test true e = apart_below a b e
    by_test false e = apart_above a b (ap (λ t. t || key_lt b a) (sym e) ∙ h)

pub or_from_apart : (a b : Key) → same_key a b ≡ false → (key_lt a b || key_lt b a) ≡ true
or_from_apart a b h = by_test (key_lt a b) (key_lt b a) refl refl
  where
    by_test : (t u : Bool) → key_lt a b ≡ t → key_lt b a ≡ u → (key_lt a b || key_lt b a) ≡ true
    by_test true u e f = rw e refl
    by_test false true e f = rw (e, f) refl
    by_test false false e f = absurd (true≢false (sym (same_key_between a b e f) ∙ h))

-- a key that is the same as one of two apart keys is apart from the other
apart_alike : (a b c : Key) → same_key a c ≡ true → same_key b c ≡ false → same_key a b ≡ false
apart_alike a b c h k = by_test (same_key a b) refl
  where
    by_test : (t : Bool) → same_key a b ≡ t → same_key a b ≡ false
    by_test true e = absurd (true≢false (sym h ∙ (same_key_equivalence.congr a b c e ∙ k)))
    by_test false e = e

-- another key has the row that it had
pub row_at-with_row_other : (rows : List RowView) (row : RowView) (key : Key) → same_key row.key key ≡ false → row_at (with_row rows row) key ≡ row_at rows key
unfolding row_at with_row
row_at-with_row_other rows row key other = by_test (key_lt key row.key) (key_lt row.key key) refl refl
  where
    by_test : (t u : Bool) → key_lt key row.key ≡ t → key_lt row.key key ≡ u → row_at (with_row rows row) key ≡ row_at rows key
    by_test true u e f =
        find_below (λ r. same_key r.key key) (λ r. key_lt r.key row.key) (λ r. key_lt row.key r.key) row rows other
        (λ r h. key_lt_alike_left r.key key row.key h ∙ e) (λ r h. apart_above r.key key (key_lt_transitive key row.key r.key e h))
    by_test false true e f =
        find_above (λ r. same_key r.key key) (λ r. key_lt r.key row.key) (λ r. key_lt row.key r.key) row rows other
        (λ r h. key_lt_alike_right r.key key row.key h ∙ f) (λ r h. apart_below r.key key (key_lt_transitive r.key row.key key h f))
    by_test false false e f = absurd (true≢false (sym (same_key_between row.key key f e) ∙ other))

-- no row stands at the key that was taken out
pub row_at-without_row : (rows : List RowView) (key : Key) → row_at (without_row rows key) key ≡ None
unfolding row_at without_row
row_at-without_row rows key =
    let kept = λ (other : RowView). key_lt other.key key || key_lt key other.key in
    find_none (λ row. same_key row.key key) (filter kept rows)
    (All-weaker (λ row. kept row ≡ true) (λ row. same_key row.key key ≡ false) (λ row h. apart_from_or row.key key h) (filter kept rows) (filter_passes kept rows))

pub row_at-without_row_other : (rows : List RowView) (key other : Key) → same_key key other ≡ false → row_at (without_row rows key) other ≡ row_at rows other
unfolding row_at without_row
row_at-without_row_other rows key other apart =
    find-filter (λ row. same_key row.key other) (λ row. key_lt row.key key || key_lt key row.key)
    (λ row h. or_from_apart row.key key (apart_alike row.key key other h apart)) rows

-- without a row at the key nothing is taken out
pub without_row-absent : (rows : List RowView) (key : Key) → row_at rows key ≡ None → without_row rows key ≡ rows
unfolding row_at without_row
without_row-absent rows key none =
    filter_all (λ row. key_lt row.key key || key_lt key row.key) rows
    (All-weaker (λ row. same_key row.key key ≡ false) (λ row. (key_lt row.key key || key_lt key row.key) ≡ true) (λ row h. or_from_apart row.key key h) rows (All-from_find_none (λ row. same_key row.key key) rows none))

pub above_iff : (a b : Key) → same_key a b ≡ false → key_lt b a ≡ not (key_lt a b)
above_iff a b h = by_test (key_lt a b) refl
  where
    by_test : (t : Bool) → key_lt a b ≡ t → key_lt b a ≡ not (key_lt a b)
    by_test true e = key_lt_asymmetric a b e ∙ ap not (sym e)
    by_test false e = ap (λ t. t || key_lt b a) (sym e) ∙ (or_from_apart a b h ∙ ap not (sym e))

-- a row that is put where none stood is one more
pub length-with_row : (rows : List RowView) (row : RowView) → row_at rows row.key ≡ None → length (with_row rows row) ≡ length rows + 1
unfolding row_at with_row
length-with_row rows row none =
    let below = λ (other : RowView). key_lt other.key row.key in
    let above = λ (other : RowView). key_lt row.key other.key in
    let both : length (filter below rows) + length (filter above rows) ≡ length rows =
    length-filters below above rows (All-weaker (λ other. same_key other.key row.key ≡ false) (λ other. above other ≡ not (below other)) (λ other h. above_iff other.key row.key h) rows (All-from_find_none (λ other. same_key other.key row.key) rows none)) in
    omega (arith, both, length-append (filter below rows) (row ∷ filter above rows))

-- ---- keys past a partition

heads_differ : (table : ℕ) (pk : List ℕ) (key : Key) → is_past table pk key ≡ key_lt (head_key table pk) (head_key key.table key.pk)
heads_differ table pk key = ap is_lt (sym (key_cmp_heads table key.table pk key.pk))

-- a lower key is of no later partition
heads_rise : (a b : Key) → key_lt a b ≡ true → key_lt (head_key b.table b.pk) (head_key a.table a.pk) ≡ false
heads_rise a b h = by_test (key_lt (head_key b.table b.pk) (head_key a.table a.pk)) refl
  where
    by_test : (t : Bool) → key_lt (head_key b.table b.pk) (head_key a.table a.pk) ≡ t → key_lt (head_key b.table b.pk) (head_key a.table a.pk) ≡ false
    by_test true e =
        let first : is_before b (At a.table a.pk) ≡ true = is_before_At b a.table a.pk ∙ (ap is_lt (sym (key_cmp_heads b.table a.table b.pk a.pk)) ∙ e) in
        absurd (true≢false (sym (key_lt_across b a (At a.table a.pk) first (is_before_own_bound a)) ∙ key_lt_asymmetric a b h))
    by_test false e = e

-- what is past a partition stays so upwards
pub is_past-rises : (table : ℕ) (pk : List ℕ) (a b : Key) → key_lt a b ≡ true → is_past table pk a ≡ true → is_past table pk b ≡ true
is_past-rises table pk a b h past =
    heads_differ table pk b
    ∙ key_lt_to_le (head_key table pk) (head_key a.table a.pk) (head_key b.table b.pk) (sym (heads_differ table pk a) ∙ past) (heads_rise a b h)

pub not_not : (b : Bool) → b ≡ not (not b)
not_not true = refl
not_not false = refl

not_true : (b : Bool) → (b ≡ true → ⊥) → b ≡ false
not_true true h = absurd (h refl)
not_true false h = refl

without_last : (a b c : Ordering) → c ≡ Equal → is_lt (ordering_then a (ordering_then b c)) ≡ true → is_lt (ordering_then a b) ≡ true
without_last Less b c e h = refl
without_last Equal Less c e h = refl
without_last Equal Equal c e h = absurd (true≢false (sym h ∙ ap is_lt e))
without_last Equal Greater c e h = h
without_last Greater b c e h = h

-- past a partition is what lies above each of its keys
pub is_past-is : (table : ℕ) (pk : List ℕ) (key : Key) → IsTrue (is_past table pk key) ↔ ((rk : List ℕ) → IsTrue (key_lt (record { table = table; pk = pk; rk = rk }) key))
unfolding key_cmp
is_past-is table pk key = (
  λ past rk. let low : Key = record { table = table; pk = pk; rk = rk } in
      key_lt_across low key (At key.table key.pk) (is_before_At low key.table key.pk ∙ past) (is_before_own_bound key),
  λ above. without_last (nat_cmp table key.table) (text_cmp pk key.pk) (text_cmp key.rk key.rk) (tied_itself text_cmp_total key.rk) (above key.rk),
)

-- ---- rows that rise, in parts

-- a test that falls upwards cuts the rows in two
pub rows_cut : (p : RowView → Bool) → ((a b : RowView) → IsTrue (key_lt a.key b.key) → p b ≡ true → p a ≡ true) → (rows : List RowView) → AreRising rows → rows ≡ filter p rows ++ filter (λ row. not (p row)) rows
rows_cut p falls [] rising = refl
rows_cut p falls (row ∷ rows) rising = by_test (rows_cut p falls rows (AllPairs-tail R row rows rising)) (p row) refl
  where
    R : RowView → RowView → Type 0
    R a b = IsTrue (key_lt a.key b.key)

    by_test : rows ≡ filter p rows ++ filter (λ r. not (p r)) rows → (t : Bool) → p row ≡ t → row ∷ rows ≡ filter p (row ∷ rows) ++ filter (λ r. not (p r)) (row ∷ rows)
    by_test rest true e = rw e (ap (λ xs. row ∷ xs) rest)
    by_test rest false e =
        let fails : All (λ r. p r ≡ false) rows = All-weaker (R row) (λ r. p r ≡ false) (λ r h. not_true (p r) (λ k. true≢false (sym (falls row r h k) ∙ e))) rows (AllPairs-head R row rows rising) in
        rw (e, filter_none p rows fails) (sym (ap (λ xs. row ∷ xs) (filter_all (λ r. not (p r)) rows (All-weaker (λ r. p r ≡ false) (λ r. not (p r) ≡ true) (λ r h. ap not h) rows fails))))

-- those below a key, and then those that are not
pub rows_at_key : (rows : List RowView) (key : Key) → AreRising rows → rows ≡ filter (λ row. key_lt row.key key) rows ++ rows_from rows key
unfolding rows_from
rows_at_key rows key rising = rows_cut (λ row. key_lt row.key key) (λ a b h k. key_lt_transitive a.key b.key key h k) rows rising

pub AreRising-rows_from : (rows : List RowView) (key : Key) → AreRising rows → AreRising (rows_from rows key)
unfolding rows_from
AreRising-rows_from rows key rising = AllPairs-filter (λ a b. IsTrue (key_lt a.key b.key)) (λ row. not (key_lt row.key key)) rows rising

pub AreRising-rows_past : (rows : List RowView) (table : ℕ) (pk : List ℕ) → AreRising rows → AreRising (rows_past rows table pk)
unfolding rows_past
AreRising-rows_past rows table pk rising = AllPairs-filter (λ a b. IsTrue (key_lt a.key b.key)) (λ row. is_past table pk row.key) rows rising

pub All-rows_from : (P : RowView → Type 0) (rows : List RowView) (key : Key) → All P rows → All P (rows_from rows key)
unfolding rows_from
All-rows_from P rows key h = All-filter (λ row. not (key_lt row.key key)) P rows h

pub All-rows_past : (P : RowView → Type 0) (rows : List RowView) (table : ℕ) (pk : List ℕ) → All P rows → All P (rows_past rows table pk)
unfolding rows_past
All-rows_past P rows table pk h = All-filter (λ row. is_past table pk row.key) P rows h

pub past_falls : (table : ℕ) (pk : List ℕ) (a b : RowView) → IsTrue (key_lt a.key b.key) → not (is_past table pk b.key) ≡ true → not (is_past table pk a.key) ≡ true
past_falls table pk a b h k = by_test (is_past table pk a.key) refl
  where
    by_test : (t : Bool) → is_past table pk a.key ≡ t → not (is_past table pk a.key) ≡ true
    by_test true e = absurd (true≢false (sym k ∙ ap not (is_past-rises table pk a.key b.key h e)))
    by_test false e = ap not e

-- the rows from a key on: those of its partition, and then those past it
pub rows_from-past : (rows : List RowView) (key : Key) → AreRising rows → rows_from rows key ≡ filter (λ row. not (is_past key.table key.pk row.key)) (rows_from rows key) ++ rows_past rows key.table key.pk
unfolding rows_from rows_past
rows_from-past rows key rising =
    let past = λ (row : RowView). is_past key.table key.pk row.key in
    let from = λ (row : RowView). not (key_lt row.key key) in
    rows_cut (λ row. not (past row)) (past_falls key.table key.pk) (filter from rows) (AreRising-rows_from rows key rising)
    ∙ ap (λ xs. filter (λ row. not (past row)) (filter from rows) ++ xs)
    (filter_agree (λ row. not (not (past row))) past (λ row. sym (not_not (past row))) (filter from rows)
    ∙ filter-filter past from (λ row h. ap not (key_lt_asymmetric key row.key ((is_past-is key.table key.pk row.key).0 h key.rk))) rows)

-- rows that rise, cut at the one that stands at a key
pub record CutAt (rows : List RowView) (key : Key) (row : RowView) : Type 0 where
  pub front : List RowView
  pub back : List RowView
  pub parts : rows ≡ front ++ row ∷ back
  pub below : AllBelow front key
  pub same : IsTrue (same_key row.key key)
  pub above : AllAbove back key

-- where a look-up finds a row, the rows are cut there
pub cut_at : (rows : List RowView) (key : Key) (row : RowView) → AreRising rows → row_at rows key ≡ Some row → CutAt rows key row
unfolding row_at
cut_at [] key row rising here = absurd (none-some row here)
cut_at (first ∷ rows) key row rising here = by_test (λ k. cut_at rows key row (AllPairs-tail R first rows rising) k) (same_key first.key key) refl
  where
    R : RowView → RowView → Type 0
    R a b = IsTrue (key_lt a.key b.key)

    higher : All (R first) rows
    higher = AllPairs-head R first rows rising

    found : (t : Bool) → same_key first.key key ≡ t → cond t (Some first) (find (λ r. same_key r.key key) rows) ≡ Some row
    found t e = ap (λ u. cond u (Some first) (find (λ r. same_key r.key key) rows)) (sym e) ∙ here

    by_test : (find (λ r. same_key r.key key) rows ≡ Some row → CutAt rows key row) → (t : Bool) → same_key first.key key ≡ t → CutAt (first ∷ rows) key row
    by_test later true e =
        let it : first ≡ row = same_Some first row (found true e) in
        record {
          front = [];
          back = rows;
          parts = ap (λ r. r ∷ rows) it;
          below = All-nil (λ r. IsTrue (key_lt r.key key));
          same = subst (λ (r : RowView). IsTrue (same_key r.key key)) it e;
          above = All-weaker (R first) (λ r. IsTrue (key_lt key r.key)) (λ r h. sym (key_lt_alike_left first.key key r.key e) ∙ h) rows higher;
        }
    by_test later false e =
        let cut = later (found false e) in
        let lower : IsTrue (key_lt first.key row.key) = All-head (R first) row cut.back (All-split (R first) cut.front (row ∷ cut.back) (subst (All (R first)) cut.parts higher)) in
        record {
          front = first ∷ cut.front;
          back = cut.back;
          parts = ap (λ xs. first ∷ xs) cut.parts;
          below = All-cons (λ r. IsTrue (key_lt r.key key)) first cut.front (sym (key_lt_alike_right row.key key first.key cut.same) ∙ lower) cut.below;
          same = cut.same;
          above = cut.above;
        }

-- a row that is put over another is no more
pub length-with_row_over : (rows : List RowView) (row old : RowView) → AreRising rows → row_at rows row.key ≡ Some old → length (with_row rows row) ≡ length rows
length-with_row_over rows row old rising here =
    let cut = cut_at rows row.key old rising here in
    let put : with_row rows row ≡ cut.front ++ row ∷ cut.back = ap (λ xs. with_row xs row) cut.parts ∙ with_row-over cut.front old cut.back row cut.below cut.same cut.above in
    ap length put ∙ (length-append cut.front (row ∷ cut.back) ∙ (sym (length-append cut.front (old ∷ cut.back)) ∙ ap length (sym cut.parts)))

-- a row that is taken out is one less
pub length-without_row : (rows : List RowView) (key : Key) (old : RowView) → AreRising rows → row_at rows key ≡ Some old → length (without_row rows key) + 1 ≡ length rows
length-without_row rows key old rising here =
    let cut = cut_at rows key old rising here in
    let left : length (without_row rows key) ≡ length (cut.front ++ cut.back) = ap length (ap (λ xs. without_row xs key) cut.parts ∙ without_row-over cut.front old cut.back key cut.below cut.same cut.above) in
    omega (arith, left, length-append cut.front cut.back, length-append cut.front (old ∷ cut.back), ap length cut.parts)

higher : (a b : Key) → not (key_lt a b) ≡ true → same_key a b ≡ false → key_lt b a ≡ true
higher a b h apart = above_iff a b apart ∙ h

-- rows that rise, cut where a key belongs that none of them has
pub record CutBetween (rows : List RowView) (key : Key) : Type 0 where
  pub front : List RowView
  pub back : List RowView
  pub parts : rows ≡ front ++ back
  pub below : AllBelow front key
  pub above : AllAbove back key

-- where a look-up finds none, the rows are cut in two
pub cut_between : (rows : List RowView) (key : Key) → AreRising rows → row_at rows key ≡ None → CutBetween rows key
unfolding row_at rows_from
cut_between rows key rising none =
    let absent : All (λ row. same_key row.key key ≡ false) rows = All-from_find_none (λ row. same_key row.key key) rows none in
    let kept : All (λ row. same_key row.key key ≡ false) (rows_from rows key) = All-filter (λ row. not (key_lt row.key key)) (λ row. same_key row.key key ≡ false) rows absent in
    let passes : All (λ row. not (key_lt row.key key) ≡ true) (rows_from rows key) = filter_passes (λ row. not (key_lt row.key key)) rows in
    record {
      front = filter (λ row. key_lt row.key key) rows;
      back = rows_from rows key;
      parts = rows_at_key rows key rising;
      below = all_below rows key;
      above = λ k d within. higher (get_or (rows_from rows key) k d).key key (passes k d within) (kept k d within);
    }

-- a row that is put where it belongs stands there
pub with_row-at : (rows : List RowView) (row : RowView) (index : ℕ) → AllBelow (take index rows) row.key → AllAbove (drop index rows) row.key → with_row rows row ≡ take index rows ++ row ∷ drop index rows
with_row-at rows row index below above = ap (λ xs. with_row xs row) (sym (take-append-drop index rows)) ∙ with_row-between (take index rows) (drop index rows) row below above

-- each of rows that rise stands at its key
pub All-row_at : (rows : List RowView) → AreRising rows → All (λ row. row_at rows row.key ≡ Some row) rows
unfolding row_at
All-row_at [] rising = All-nil (λ row. row_at [] row.key ≡ Some row)
All-row_at (first ∷ rows) rising =
    let R = λ (a b : RowView). IsTrue (key_lt a.key b.key) in
    let head : All (R first) rows = AllPairs-head R first rows rising in
    let rest : All (λ row. row_at rows row.key ≡ Some row) rows = All-row_at rows (AllPairs-tail R first rows rising) in
    All-cons (λ row. row_at (first ∷ rows) row.key ≡ Some row) first rows
    (ap (λ b. cond b (Some first) (row_at rows first.key)) (same_key_itself first.key))
    (λ k d within. ap (λ b. cond b (Some first) (row_at rows (get_or rows k d).key)) (apart_below first.key (get_or rows k d).key (head k d within)) ∙ rest k d within)
