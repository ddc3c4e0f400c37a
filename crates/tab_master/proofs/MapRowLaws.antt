-- Rows of the map that tile the keys: they rise, so there is one such order of them, and a key's row is found by the bounds at
-- which rows begin.
use Rattle.std.proofs.Common.{◌≡◌, ℕ, zero, suc, ◌+◌, ◌-◌, ◌<◌, ◌≤◌, ◌⊎◌, inl, inr, List, [], ◌∷◌, Bool, true, false, not, map, length, get_or, refl, sym, ap, ◌∙◌, subst, arith, IsPermutation}
use Rattle.std.specs.Prelude.{All, AllPairs, IsTrue, IsFalse, nat_lt, Some}
use Rattle.std.specs.List.{list_all, Contains}
use Rattle.std.specs.List.Sorted.{IsPartitionPoint, IsPartitionedBy}
use Rattle.std.specs.Ordering.{is_lt}
use Rattle.std.specs.declared.cmp.Ordering.{Ordering}
use Rattle.std.specs.Cmp.{IsTotalOrder}
use Rattle.std.proofs.lemmas.Cmp.{on_total}
use Rattle.std.proofs.lemmas.Bool.{true≢false, cases_eq, cases_lt}
use Rattle.std.proofs.lemmas.Bool.Decides.{nat_tests}
use Rattle.std.proofs.lemmas.List.{length-map, get_or-map}
use Rattle.std.proofs.lemmas.List.Elements.{All-nil, All-cons, All-head, All-tail, All-map}
use Rattle.std.proofs.lemmas.List.Kept.{AllPairs-cons}
use Rattle.std.proofs.lemmas.List.Sorted.{IsPermutation-map}
use Rattle.tab_keys.specs.Order.{bound_cmp, bound_lt, is_before}
use Rattle.tab_keys.specs.Spans.{has}
use Rattle.tab_keys.specs.TotalOrders.{bound_cmp_total}
use Rattle.tab_keys.specs.declared.keys.Key.{Key}
use Rattle.tab_keys.specs.declared.bounds.Bound.{Bound}
use Rattle.tab_keys.specs.declared.bounds.Bound.TheVariants.{At}
use Rattle.tab_keys.proofs.OrderLaws.{bound_lt_is, bound_lt_transitive, is_before_first_bound, is_before_later}
use Rattle.tab_rows.proofs.Lists.{AllPairs-head, AllPairs-tail}
use Rattle.tab_page.proofs.RisingLists.{AllPairs-nil}
use Rattle.tab_codec.specs.declared.frames.RangeRow.{RangeRow}
use Rattle.tab_journal.proofs.Fronts.{and_true, both_true}
use Rattle.tab_history.specs.Configurations.{MapRow, row_with}
use Rattle.tab_history.specs.Tilings.{AreTiles, TileKeys, HasOneRow}
use Rattle.tab_history.proofs.ConfigurationLaws.{one_row}
use Rattle.tab_master.specs.Ordered.{in_order}
use Rattle.tab_master.specs.Spelled.{map_row, by_start}
use Rattle.tab_master.specs.Maps.{range_row, AreInYard, HasKeyAt}
use Rattle.tab_master.proofs.OrderedLaws.{in_order_rising, sorted_otherwise}

pub by_start_total : IsTotalOrder by_start
by_start_total = on_total (λ (it : MapRow). it.span.lo) bound_cmp_total

-- rows of frames by the bounds at which they begin
abbrev pub row_order : RangeRow → RangeRow → Ordering
row_order a b = by_start (map_row a) (map_row b)

pub row_order_total : IsTotalOrder row_order
row_order_total = on_total (λ (it : RangeRow). it.span.lo) bound_cmp_total

-- ---- rows of the map and of frames

pub as_frame_rows : (rows : List RangeRow) → map range_row (map map_row rows) ≡ rows
as_frame_rows [] = refl
as_frame_rows (row ∷ rows) = ap (λ (rest : List RangeRow). row ∷ rest) (as_frame_rows rows)

pub as_map_rows : (rows : List MapRow) → map map_row (map range_row rows) ≡ rows
as_map_rows [] = refl
as_map_rows (row ∷ rows) = ap (λ (rest : List MapRow). row ∷ rest) (as_map_rows rows)

pub same_rows : (rows others : List RangeRow) → map map_row rows ≡ map map_row others → rows ≡ others
same_rows rows others same = sym (as_frame_rows rows) ∙ (ap (map range_row) same ∙ as_frame_rows others)

map_pairs : {X Y : Type 0} (f : X → Y) (R : Y → Y → Type 0) (xs : List X) → AllPairs (λ a b. R (f a) (f b)) xs → AllPairs R (map f xs)
map_pairs f R [] h = AllPairs-nil R
map_pairs f R (x ∷ xs) h =
    AllPairs-cons R (f x) (map f xs) (All-map (R (f x)) f xs (AllPairs-head (λ a b. R (f a) (f b)) x xs h)) (map_pairs f R xs (AllPairs-tail (λ a b. R (f a) (f b)) x xs h))

-- ---- rows that tile rise

all_above : (x lo : Bound) (rows : List MapRow) → AreTiles lo rows → bound_lt x lo ≡ true → All (λ row. IsTrue (is_lt (bound_cmp x row.span.lo))) rows
all_above x lo [] tiles h = All-nil (λ (row : MapRow). IsTrue (is_lt (bound_cmp x row.span.lo)))
all_above x lo (row ∷ rows) tiles h =
    All-cons (λ (one : MapRow). IsTrue (is_lt (bound_cmp x one.span.lo))) row rows (sym (bound_lt_is x row.span.lo) ∙ (ap (bound_lt x) tiles.0 ∙ h))
    (all_above x row.span.hi rows tiles.2 (bound_lt_transitive x lo row.span.hi h tiles.1))

pub tiles_rise : (lo : Bound) (rows : List MapRow) → AreTiles lo rows → AllPairs (λ a b. IsTrue (is_lt (by_start a b))) rows
tiles_rise lo [] tiles = AllPairs-nil (λ a b. IsTrue (is_lt (by_start a b)))
tiles_rise lo (row ∷ rows) tiles =
    AllPairs-cons (λ a b. IsTrue (is_lt (by_start a b))) row rows
    (all_above row.span.lo row.span.hi rows tiles.2 (ap (λ (bound : Bound). bound_lt bound row.span.hi) tiles.0 ∙ tiles.1))
    (tiles_rise row.span.hi rows tiles.2)

all_rows_above : (x lo : Bound) (rows : List RangeRow) → AreTiles lo (map map_row rows) → bound_lt x lo ≡ true → All (λ row. IsTrue (bound_lt x row.span.lo)) rows
all_rows_above x lo [] tiles h = All-nil (λ (row : RangeRow). IsTrue (bound_lt x row.span.lo))
all_rows_above x lo (row ∷ rows) tiles h =
    All-cons (λ (one : RangeRow). IsTrue (bound_lt x one.span.lo)) row rows (ap (bound_lt x) tiles.0 ∙ h)
    (all_rows_above x row.span.hi rows tiles.2 (bound_lt_transitive x lo row.span.hi h tiles.1))

pub rows_rise : (lo : Bound) (rows : List RangeRow) → AreTiles lo (map map_row rows) → AllPairs (λ (a b : RangeRow). IsTrue (bound_lt a.span.lo b.span.lo)) rows
rows_rise lo [] tiles = AllPairs-nil (λ (a b : RangeRow). IsTrue (bound_lt a.span.lo b.span.lo))
rows_rise lo (row ∷ rows) tiles =
    AllPairs-cons (λ (a b : RangeRow). IsTrue (bound_lt a.span.lo b.span.lo)) row rows
    (all_rows_above row.span.lo row.span.hi rows tiles.2 (ap (λ (bound : Bound). bound_lt bound row.span.hi) tiles.0 ∙ tiles.1))
    (rows_rise row.span.hi rows tiles.2)

-- ---- one order

-- rows that were sorted and tile are the rows in order
pub tiled_is : (rows sorted : List RangeRow) → IsPermutation rows sorted → TileKeys (map map_row sorted) → in_order by_start (map map_row rows) ≡ map map_row sorted
tiled_is rows sorted moved tiles =
    in_order_rising by_start by_start_total (map map_row rows) (map map_row sorted) (tiles_rise (At 0 []) (map map_row sorted) tiles) (IsPermutation-map map_row rows sorted moved)

-- and where the rows in order tile, they are those that were sorted
pub tiled_otherwise : (rows sorted : List RangeRow) (told : List MapRow) → IsPermutation rows sorted → AllPairs (λ (a b : RangeRow). IsFalse (is_lt (by_start (map_row b) (map_row a)))) sorted
    → in_order by_start (map map_row rows) ≡ told → TileKeys told → map map_row sorted ≡ told
tiled_otherwise rows sorted told moved up is tiles =
    sorted_otherwise by_start by_start_total (map map_row rows) (map map_row sorted) told (IsPermutation-map map_row rows sorted moved)
    (map_pairs map_row (λ (a b : MapRow). IsFalse (is_lt (by_start b a))) sorted up) (tiles_rise (At 0 []) told tiles) is

-- rows are in order what is held exactly where they are it as they were sorted
pub listed_rows : (rows sorted held : List RangeRow) (same : Bool) → IsPermutation rows sorted → AllPairs (λ (a b : RangeRow). IsFalse (is_lt (by_start (map_row b) (map_row a)))) sorted
    → TileKeys (map map_row held) → (IsTrue same → sorted ≡ held) → (sorted ≡ held → IsTrue same)
    → (IsTrue same → in_order by_start (map map_row rows) ≡ map map_row held) × (in_order by_start (map map_row rows) ≡ map map_row held → IsTrue same)
listed_rows rows sorted held same moved up tiles so not_else = (
  λ is. tiled_is rows sorted moved (subst (λ (l : List RangeRow). TileKeys (map map_row l)) (sym (so is)) tiles) ∙ ap (map map_row) (so is),
  λ is. not_else (same_rows sorted held (tiled_otherwise rows sorted (map map_row held) moved up is tiles)),
)

-- ---- servers

below_from : (a b : ℕ) → nat_lt a b ≡ true → a < b
below_from a b h = grind (arith, nat_tests)

below_test : (a b : ℕ) → a < b → nat_lt a b ≡ true
below_test a b h = grind (arith, nat_tests)

pub in_yard_from : (servers : ℕ) (rows : List RangeRow) → list_all (λ (row : RangeRow). nat_lt row.server servers) rows ≡ true → AreInYard servers (map map_row rows)
in_yard_from servers [] h = All-nil (λ (row : MapRow). row.server < servers)
in_yard_from servers (row ∷ rows) h =
    let parts = and_true (nat_lt row.server servers) (list_all (λ (one : RangeRow). nat_lt one.server servers) rows) h in
    All-cons (λ (one : MapRow). one.server < servers) (map_row row) (map map_row rows) (below_from row.server servers parts.0) (in_yard_from servers rows parts.1)

pub in_yard_test : (servers : ℕ) (rows : List RangeRow) → AreInYard servers (map map_row rows) → list_all (λ (row : RangeRow). nat_lt row.server servers) rows ≡ true
in_yard_test servers [] h = refl
in_yard_test servers (row ∷ rows) h =
    both_true (nat_lt row.server servers) (list_all (λ (one : RangeRow). nat_lt one.server servers) rows)
    (below_test row.server servers (All-head (λ (one : MapRow). one.server < servers) (map_row row) (map map_row rows) h))
    (in_yard_test servers rows (All-tail (λ (one : MapRow). one.server < servers) (map_row row) (map map_row rows) h))

-- ---- the row of a key

-- a row begins at the key or before it
abbrev pub has_begun : Key → RangeRow → Bool
has_begun key row = not (is_before key row.span.lo)

not_before : (b : Bool) → not b ≡ true → b ≡ false
not_before true h = absurd (true≢false (sym h))
not_before false h = refl

is_before_it : (b : Bool) → not b ≡ false → b ≡ true
is_before_it true h = refl
is_before_it false h = absurd (true≢false h)

-- where a row has not begun at a key, those behind it have not
pub begun_is_partitioned : (rows : List RangeRow) (key : Key) → TileKeys (map map_row rows) → IsPartitionedBy (has_begun key) rows
begun_is_partitioned rows key tiles i j d le within h = by_order (cases_eq i j)
  where
    by_order : (i ≡ j) ⊎ (i ≡ j → ⊥) → has_begun key (get_or rows i d) ≡ true
    by_order (inl same) = subst (λ (n : ℕ). has_begun key (get_or rows n d) ≡ true) (sym same) h
    by_order (inr other) =
        let rises : bound_lt (get_or rows i d).span.lo (get_or rows j d).span.lo ≡ true = rows_rise (At 0 []) rows tiles i j d (omega arith) within in
        by_test (is_before key (get_or rows i d).span.lo) refl rises
      where
        by_test : (t : Bool) → is_before key (get_or rows i d).span.lo ≡ t → bound_lt (get_or rows i d).span.lo (get_or rows j d).span.lo ≡ true → not (is_before key (get_or rows i d).span.lo) ≡ true
        by_test true e rises = absurd (true≢false (sym (is_before_later key _ _ rises e) ∙ not_before _ h))
        by_test false e rises = ap not e

-- the last row that has begun has the key
tile_has : (lo : Bound) (rows : List RangeRow) (key : Key) (i : ℕ) (d : RangeRow) → AreTiles lo (map map_row rows) → i < length rows → is_before key (get_or rows i d).span.lo ≡ false
    → ((j : ℕ) → j ≡ i + 1 → j < length rows → is_before key (get_or rows j d).span.lo ≡ true) → has (get_or rows i d).span key ≡ true
tile_has lo [] key i d tiles within begun behind = absurd (omega arith)
tile_has lo (row ∷ []) key zero d tiles within begun behind =
    both_true (not (is_before key row.span.lo)) (is_before key row.span.hi) (ap not begun) (ap (is_before key) tiles.2)
tile_has lo (row ∷ next ∷ rows) key zero d tiles within begun behind =
    both_true (not (is_before key row.span.lo)) (is_before key row.span.hi) (ap not begun)
    (ap (is_before key) (sym tiles.2.0) ∙ behind 1 refl (omega arith))
tile_has lo (row ∷ rows) key (suc i) d tiles within begun behind =
    tile_has row.span.hi rows key i d tiles.2 (omega arith) begun (λ j is less. behind (suc j) (omega arith) (omega arith))

no_rows : (rows : List RangeRow) → length rows ≤ 0 → TileKeys (map map_row rows) → ⊥
no_rows [] few tiles = absurd cc
no_rows (row ∷ rows) few tiles = absurd (omega arith)

-- the first row has begun at every key
first_begun : (rows : List RangeRow) (key : Key) (d : RangeRow) → TileKeys (map map_row rows) → has_begun key (get_or rows 0 d) ≡ true
first_begun [] key d tiles = absurd (no_rows [] (omega arith) tiles)
first_begun (row ∷ rows) key d tiles = ap not (ap (is_before key) tiles.0 ∙ is_before_first_bound key)

pub some_begun : (rows : List RangeRow) (key : Key) (begun : ℕ) → TileKeys (map map_row rows) → IsPartitionPoint (λ row. has_begun key row ≡ true) (λ row. has_begun key row ≡ false) rows begun → 1 ≤ begun
some_begun [] key begun tiles parted = absurd (no_rows [] (omega arith) tiles)
some_begun (row ∷ rows) key begun tiles parted = by_order (cases_lt 0 begun)
  where
    by_order : (0 < begun) ⊎ (begun ≤ 0) → 1 ≤ begun
    by_order (inl some) = omega arith
    by_order (inr none) = absurd (true≢false (sym (first_begun (row ∷ rows) key row tiles) ∙ parted.1 0 row (omega arith) (omega arith)))

begun_row : (rows : List RangeRow) (key : Key) (begun : ℕ) (row : RangeRow) → TileKeys (map map_row rows) → begun ≤ length rows
    → IsPartitionPoint (λ one. has_begun key one ≡ true) (λ one. has_begun key one ≡ false) rows begun → row ≡ get_or rows (begun - 1) row → row_with (map map_row rows) key ≡ Some (map_row row)
begun_row rows key begun row tiles within parted is =
    let some : 1 ≤ begun = some_begun rows key begun tiles parted in
    let less : begun - 1 < length rows = omega arith in
    let here : is_before key (get_or rows (begun - 1) row).span.lo ≡ false = not_before _ (parted.0 (begun - 1) row (omega arith) (omega arith)) in
    let inside : has (get_or rows (begun - 1) row).span key ≡ true =
    tile_has (At 0 []) rows key (begun - 1) row tiles less here (λ j e l. is_before_it _ (parted.1 j row (omega arith) (omega arith))) in
    let one : HasOneRow (map map_row rows) key = one_row (map map_row rows) key tiles in
    let among : Contains (map map_row rows) (map_row row) = (begun - 1, (let long = length-map rows map_row in omega arith), get_or-map map_row rows (begun - 1) row (map_row row) less ∙ ap map_row (sym is)) in
    one.found ∙ ap (λ (it : MapRow). Some it) (sym (one.only (map_row row) among (ap (λ (it : RangeRow). has it.span key) is ∙ inside)))

pub begun_at : (rows : List RangeRow) (key : Key) (begun : ℕ) → TileKeys (map map_row rows) → begun ≤ length rows
    → IsPartitionPoint (λ one. has_begun key one ≡ true) (λ one. has_begun key one ≡ false) rows begun → HasKeyAt rows key (begun - 1)
begun_at rows key begun tiles within parted =
    let some : 1 ≤ begun = some_begun rows key begun tiles parted in
    record { within = omega arith; has = λ row is. begun_row rows key begun row tiles within parted is }
