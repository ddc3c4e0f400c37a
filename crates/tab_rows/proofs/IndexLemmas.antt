-- What a key's index among rising rows says of a look-up and of a change at the key, and that a binary search
-- finds it.
use Rattle.std.proofs.Common.{◌≡◌, ℕ, suc, ◌+◌, ◌<◌, ◌≤◌, List, ◌∷◌, ◌++◌, Bool, true, false, not, length, get_or, set, take, drop, Ok, Err, Result, MatchResult, refl, sym, ap, ◌∙◌, subst, arith, ⊎_elim}
use Rattle.std.specs.Prelude.{Some, None, All, IsTrue, filter, insert, remove, slice_get}
use Rattle.std.specs.List.{HoldsAt}
use Rattle.std.specs.List.Sorted.{IsSortedBy, IsPartitionedBy, IsPartitionPoint, IsBinarySearchResult}
use Rattle.std.specs.Ordering.{is_lt, is_eq, ordering_reverse}
use Rattle.std.specs.declared.cmp.Ordering.TheVariants.{Less, Equal, Greater}
use Rattle.std.proofs.lemmas.List.{take-append-drop, set_split, drop_more}
use Rattle.std.proofs.lemmas.List.Sorted.{searchable_from_sorted}
use Rattle.std.proofs.lemmas.Bool.{cases_eq}
use Rattle.std.proofs.lemmas.Option.{slice_get_cases, slice_get_within, slice_get_read, get_or_from_slice_get}
use Rattle.tab_keys.specs.Order.{key_cmp, key_lt, same_key}
use Rattle.tab_keys.specs.TotalOrders.{key_cmp_total}
use Rattle.tab_keys.specs.declared.keys.Key.{Key}
use Rattle.tab_keys.proofs.OrderLaws.{key_lt_asymmetric, key_lt_transitive, key_lt_alike_left, key_lt_alike_right}
use Rattle.tab_rows.specs.Rows.{RowView, AreRising, row_at, with_row, without_row}
use Rattle.tab_rows.specs.Indices.{StandsAt, BelongsAt}
use Rattle.tab_rows.proofs.Lists.{filter_back, All-take_within, All-drop_within}
use Rattle.tab_rows.proofs.RowLaws.{with_row-between, row_at-between, without_row-between, with_row-over, row_at-over, without_row-over}

-- ---- where the key belongs

pub with_row-belongs : (rows : List RowView) (row : RowView) (index : ℕ) → BelongsAt rows row.key index → with_row rows row ≡ insert rows index row
with_row-belongs rows row index h = ap (λ xs. with_row xs row) (sym (take-append-drop index rows)) ∙ with_row-between (take index rows) (drop index rows) row h.below h.above

pub row_at-belongs : (rows : List RowView) (key : Key) (index : ℕ) → BelongsAt rows key index → row_at rows key ≡ None
row_at-belongs rows key index h = ap (λ xs. row_at xs key) (sym (take-append-drop index rows)) ∙ row_at-between (take index rows) (drop index rows) key h.below h.above

pub without_row-belongs : (rows : List RowView) (key : Key) (index : ℕ) → BelongsAt rows key index → without_row rows key ≡ rows
without_row-belongs rows key index h =
    ap (λ xs. without_row xs key) (sym (take-append-drop index rows)) ∙ (without_row-between (take index rows) (drop index rows) key h.below h.above ∙ take-append-drop index rows)

-- ---- where the key stands

within : (rows : List RowView) (key : Key) (index : ℕ) → StandsAt rows key index → index < length rows
within rows key index h = slice_get_within rows index h.row h.here

tail : (rows : List RowView) (key : Key) (index : ℕ) (h : StandsAt rows key index) → drop index rows ≡ h.row ∷ drop (suc index) rows
tail rows key index h =
    let inside : index < length rows = within rows key index h in
    let one_more : index + 1 ≡ suc index = omega arith in
    let next : drop (index + 1) rows ≡ drop (suc index) rows = ap (λ n. drop n rows) one_more in
    drop_more rows index h.row inside ∙ (ap (λ x. x ∷ drop (index + 1) rows) (get_or_from_slice_get rows index h.row h.row h.here) ∙ ap (λ xs. h.row ∷ xs) next)

parts : (rows : List RowView) (key : Key) (index : ℕ) (h : StandsAt rows key index) → rows ≡ take index rows ++ h.row ∷ drop (suc index) rows
parts rows key index h = sym (take-append-drop index rows) ∙ ap (λ xs. take index rows ++ xs) (tail rows key index h)

pub with_row-stands : (rows : List RowView) (row : RowView) (index : ℕ) → StandsAt rows row.key index → with_row rows row ≡ set rows index row
with_row-stands rows row index h =
    ap (λ xs. with_row xs row) (parts rows row.key index h)
    ∙ (with_row-over (take index rows) h.row (drop (suc index) rows) row h.below h.same h.above ∙ sym (set_split rows index row (within rows row.key index h)))

pub row_at-stands : (rows : List RowView) (key : Key) (index : ℕ) (h : StandsAt rows key index) → row_at rows key ≡ Some h.row
row_at-stands rows key index h = ap (λ xs. row_at xs key) (parts rows key index h) ∙ row_at-over (take index rows) h.row (drop (suc index) rows) key h.below h.same

pub without_row-stands : (rows : List RowView) (key : Key) (index : ℕ) → StandsAt rows key index → without_row rows key ≡ remove rows index
without_row-stands rows key index h = ap (λ xs. without_row xs key) (parts rows key index h) ∙ without_row-over (take index rows) h.row (drop (suc index) rows) key h.below h.same h.above

-- ---- what a binary search finds

sorted : (rows : List RowView) → AreRising rows → IsSortedBy (λ a b. is_lt (key_cmp a.key b.key)) rows
sorted rows rising k d low high = key_lt_asymmetric _ _ (rising k (k + 1) d (omega arith) high)

stands_with : (rows : List RowView) (key : Key) (index : ℕ) (row : RowView) → AreRising rows → index < length rows → slice_get rows index ≡ Some row → same_key row.key key ≡ true → StandsAt rows key index
stands_with rows key index row rising inside here same = record {
  row = row;
  here = here;
  same = same;
  below = All-take_within (λ other. IsTrue (key_lt other.key key)) rows index (omega arith)
      (λ k d low high. sym (key_lt_alike_right row.key key (get_or rows k d).key same) ∙ subst (λ (r : RowView). key_lt (get_or rows k d).key r.key ≡ true) (get_or_from_slice_get rows index row d here) (rising k index d high inside));
  above = All-drop_within (λ other. IsTrue (key_lt key other.key)) rows (suc index)
      (λ k d low high. sym (key_lt_alike_left row.key key (get_or rows k d).key same) ∙ subst (λ (r : RowView). key_lt r.key (get_or rows k d).key ≡ true) (get_or_from_slice_get rows index row d here) (rising index k d (omega arith) high));
}

stands : (rows : List RowView) (key : Key) (index : ℕ) → AreRising rows → index < length rows → HoldsAt (λ row. key_cmp row.key key ≡ Equal) rows index → StandsAt rows key index
stands rows key index rising inside holds =
    ⊎_elim
    (λ h. stands_with rows key index h.0 rising inside h.2 (ap is_eq (subst (λ (r : RowView). key_cmp r.key key ≡ Equal) h.3 (holds h.0))))
    (λ h. absurd (omega (arith, h.0)))
    (slice_get_cases rows index).1

above_from_greater : (row : RowView) (key : Key) → key_cmp row.key key ≡ Greater → IsTrue (key_lt key row.key)
above_from_greater row key h = ap is_lt (key_cmp_total.antisymm key row.key ∙ ap ordering_reverse h)

belongs : (rows : List RowView) (key : Key) (index : ℕ) → index ≤ length rows → IsPartitionPoint (λ row. key_cmp row.key key ≡ Less) (λ row. key_cmp row.key key ≡ Greater) rows index → BelongsAt rows key index
belongs rows key index inside point = record {
  within = inside;
  below = All-take_within (λ row. IsTrue (key_lt row.key key)) rows index inside (λ k d low high. ap is_lt (point.0 k d low high));
  above = All-drop_within (λ row. IsTrue (key_lt key row.key)) rows index (λ k d low high. above_from_greater (get_or rows k d) key (point.1 k d low high));
}

pub index_from_search : (rows : List RowView) (key : Key) (found : Result ℕ ℕ) → AreRising rows
    → MatchResult found (λ i. i < length rows) (λ i. i ≤ length rows)
    → IsBinarySearchResult (λ row. key_cmp row.key key) rows found
    → MatchResult found (StandsAt rows key) (BelongsAt rows key)
index_from_search rows key (Ok index) rising inside h = stands rows key index rising inside h
index_from_search rows key (Err index) rising inside h = belongs rows key index inside (h (searchable_from_sorted key_cmp_total (λ row. row.key) rows key (sorted rows rising)))

-- the row that is read at the index is the one at the key
pub row_at-read : (rows : List RowView) (key : Key) (index : ℕ) (row : RowView) → StandsAt rows key index → row ≡ get_or rows index row → Some row ≡ row_at rows key
row_at-read rows key index row h read =
    sym (slice_get_read rows (length rows) index row refl (within rows key index h) read) ∙ (h.here ∙ sym (row_at-stands rows key index h))

-- ---- where a test of rising rows begins to fail

pub partitioned : (p : RowView → Bool) (rows : List RowView) → ((a b : RowView) → IsTrue (key_lt a.key b.key) → p b ≡ true → p a ≡ true) → AreRising rows → IsPartitionedBy p rows
partitioned p rows falls rising i j d le inside h =
    ⊎_elim
    (λ same. subst (λ (n : ℕ). p (get_or rows n d) ≡ true) (sym same) h)
    (λ other. falls (get_or rows i d) (get_or rows j d) (rising i j d (omega arith) inside) h)
    (cases_eq i j)

-- the rows behind the point are those that pass the opposite test
pub rest_from_point : (p q : RowView → Bool) (rows : List RowView) (n : ℕ) → ((row : RowView) → q row ≡ not (p row)) → n ≤ length rows
    → IsPartitionPoint (λ row. p row ≡ true) (λ row. p row ≡ false) rows n → drop n rows ≡ filter q rows
rest_from_point p q rows n opposite le point =
    let front : All (λ row. q row ≡ false) (take n rows) = All-take_within (λ row. q row ≡ false) rows n le (λ k d low high. opposite (get_or rows k d) ∙ ap not (point.0 k d low high)) in
    let back : All (λ row. q row ≡ true) (drop n rows) = All-drop_within (λ row. q row ≡ true) rows n (λ k d low high. opposite (get_or rows k d) ∙ ap not (point.1 k d low high)) in
    sym (ap (filter q) (sym (take-append-drop n rows)) ∙ filter_back q (take n rows) (drop n rows) front back)

pub below_falls : (key : Key) (a b : RowView) → IsTrue (key_lt a.key b.key) → key_lt b.key key ≡ true → key_lt a.key key ≡ true
below_falls key a b h k = key_lt_transitive a.key b.key key h k
