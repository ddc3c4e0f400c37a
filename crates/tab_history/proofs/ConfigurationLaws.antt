-- What follows where the spans of a map's rows tile the space of keys.
use Rattle.std.proofs.Common.{◌≡◌, List, [], ◌∷◌, Bool, true, false, not, ◌&&◌, cond, Contains, All, AllPairs, ⊎_elim, refl, sym, ap, ◌∙◌, subst}
use Rattle.std.specs.Prelude.{Some, find, IsTrue, if◌then◌else◌}
use Rattle.std.proofs.lemmas.Bool.{true≢false, and_parts}
use Rattle.std.proofs.lemmas.Option.{same_Some, none-some}
use Rattle.std.proofs.lemmas.List.Elements.{All-nil, All-cons, All-contains}
use Rattle.std.proofs.lemmas.List.Kept.{AllPairs-cons}
use Rattle.tab_keys.specs.Order.{bound_lt, is_before}
use Rattle.tab_keys.specs.Spans.{has}
use Rattle.tab_keys.specs.declared.keys.Key.{Key}
use Rattle.tab_keys.specs.declared.bounds.Bound.{Bound}
use Rattle.tab_keys.specs.declared.bounds.Bound.TheVariants.{At, End}
use Rattle.tab_keys.proofs.OrderLaws.{is_before_first_bound, is_before_later, bound_lt_irreflexive, bound_lt_transitive}
use Rattle.tab_page.specs.Pages.{lesser, end_above}
use Rattle.tab_page.proofs.RisingLists.{Contains-here, Contains-there, Contains-cons_cases, Contains-nil, AllPairs-nil}
use Rattle.tab_history.specs.Configurations.{MapRow, row_with, bounds_of}
use Rattle.tab_history.specs.Legality.{AreBounds}
use Rattle.tab_history.specs.Tilings.{AreTiles, TileKeys, HasOneRow}

bound_lt_asymmetric : (a b : Bound) → bound_lt a b ≡ true → bound_lt b a ≡ false
bound_lt_asymmetric a b h = by_test (bound_lt b a) refl
  where
    by_test : (t : Bool) → bound_lt b a ≡ t → bound_lt b a ≡ false
    by_test true e = absurd (true≢false (sym (bound_lt_transitive a b a h e) ∙ bound_lt_irreflexive a))
    by_test false e = e

below_end : (a b : Bound) → bound_lt a b ≡ true → bound_lt a End ≡ true
below_end (At table pk) b h = refl
below_end End b h = absurd (true≢false (sym h))

-- ---- the row of a key

-- a row that was found is one of the rows, and has the key
pub row_with-found : (rows : List MapRow) (key : Key) (row : MapRow) → row_with rows key ≡ Some row → Contains rows row × IsTrue (has row.span key)
unfolding row_with
row_with-found [] key row h = absurd (none-some row h)
row_with-found (first ∷ rows) key row h = by_test (row_with-found rows key row) (has first.span key) refl h
  where
    by_test : (find (λ (one : MapRow). has one.span key) rows ≡ Some row → Contains rows row × IsTrue (has row.span key)) → (t : Bool) → has first.span key ≡ t
        → cond t (Some first) (find (λ (one : MapRow). has one.span key) rows) ≡ Some row → Contains (first ∷ rows) row × IsTrue (has row.span key)
    by_test later true e k =
        subst (λ (one : MapRow). Contains (first ∷ rows) one × IsTrue (has one.span key)) (same_Some first row k) (Contains-here first rows, e)
    by_test later false e k = let it = later k in (Contains-there first row rows it.0, it.1)

-- behind a bound no row has a key before it
none_before : (lo : Bound) (rows : List MapRow) (key : Key) → AreTiles lo rows → is_before key lo ≡ true → All (λ row. has row.span key ≡ false) rows
none_before lo [] key tiles h = All-nil (λ row. has row.span key ≡ false)
none_before lo (row ∷ rows) key tiles h =
    All-cons (λ row. has row.span key ≡ false) row rows
    (ap (λ (bound : Bound). not (is_before key bound) && is_before key row.span.hi) tiles.0 ∙ rw h refl)
    (none_before row.span.hi rows key tiles.2 (is_before_later key lo row.span.hi tiles.1 h))

-- a key that is not before it has one of their rows
found_from : (lo : Bound) (rows : List MapRow) (key : Key) → AreTiles lo rows → is_before key lo ≡ false → (row : MapRow) × (row_with rows key ≡ Some row)
unfolding row_with
found_from lo [] key tiles h = absurd (true≢false (ap (is_before key) (sym tiles) ∙ h))
found_from lo (first ∷ rows) key tiles h = by_test (found_from first.span.hi rows key tiles.2) (is_before key first.span.hi) refl
  where
    has_if : (t : Bool) → is_before key first.span.hi ≡ t → has first.span key ≡ t
    has_if t e = ap (λ (bound : Bound). not (is_before key bound) && is_before key first.span.hi) tiles.0 ∙ rw (h, e) refl

    by_test : (is_before key first.span.hi ≡ false → (row : MapRow) × (find (λ (one : MapRow). has one.span key) rows ≡ Some row)) → (t : Bool) → is_before key first.span.hi ≡ t
        → (row : MapRow) × (find (λ (one : MapRow). has one.span key) (first ∷ rows) ≡ Some row)
    by_test later true e = (first, ap (λ t. cond t (Some first) (find (λ (one : MapRow). has one.span key) rows)) (has_if true e))
    by_test later false e = let it = later e in (it.0, ap (λ t. cond t (Some first) (find (λ (one : MapRow). has one.span key) rows)) (has_if false e) ∙ it.1)

-- each row that has a key is the one that is found
found_each : (lo : Bound) (rows : List MapRow) (key : Key) (row : MapRow) → AreTiles lo rows → Contains rows row → IsTrue (has row.span key) → row_with rows key ≡ Some row
unfolding row_with
found_each lo [] key row tiles among inside = absurd (Contains-nil row among)
found_each lo (first ∷ rows) key row tiles among inside = by_test (found_each first.span.hi rows key row tiles.2) (has first.span key) refl
  where
    picked : (t : Bool) → has first.span key ≡ t → find (λ (one : MapRow). has one.span key) (first ∷ rows) ≡ cond t (Some first) (find (λ (one : MapRow). has one.span key) rows)
    picked t e = ap (λ u. cond u (Some first) (find (λ (one : MapRow). has one.span key) rows)) e

    by_test : (Contains rows row → IsTrue (has row.span key) → find (λ (one : MapRow). has one.span key) rows ≡ Some row) → (t : Bool) → has first.span key ≡ t
        → find (λ (one : MapRow). has one.span key) (first ∷ rows) ≡ Some row
    by_test later true e =
        picked true e
        ∙ ⊎_elim
        (λ same. ap (λ (one : MapRow). Some one) same)
        (λ behind.
        let before = (and_parts (not (is_before key first.span.lo)) (is_before key first.span.hi) e).1 in
        let none : has row.span key ≡ false = All-contains (λ one. has one.span key ≡ false) rows row (none_before first.span.hi rows key tiles.2 before) behind in
        absurd (true≢false (sym inside ∙ none)))
        (Contains-cons_cases first row rows among)
    by_test later false e =
        picked false e
        ∙ ⊎_elim
        (λ same. absurd (true≢false (sym inside ∙ (ap (λ (one : MapRow). has one.span key) (sym same) ∙ e))))
        (λ behind. later behind inside)
        (Contains-cons_cases first row rows among)

-- exactly one row has a key
pub one_row : (rows : List MapRow) (key : Key) → TileKeys rows → HasOneRow rows key
one_row rows key tiles =
    let it = found_from (At 0 []) rows key tiles (is_before_first_bound key) in
    let is = row_with-found rows key it.0 it.1 in
    record {
      row = it.0;
      found = it.1;
      among = is.0;
      inside = is.1;
      only = λ other among inside. same_Some other it.0 (sym (found_each (At 0 []) rows key other tiles among inside) ∙ it.1);
    }

-- ---- bounds

-- before them all stands the first
end_before : (lo : Bound) (rows : List MapRow) (key : Key) → AreTiles lo rows → is_before key lo ≡ true → end_above key (bounds_of rows) ≡ lo
end_before lo [] key tiles h = sym tiles
end_before lo (row ∷ rows) key tiles h =
    let here : is_before key row.span.lo ≡ true = ap (is_before key) tiles.0 ∙ h in
    let rest : end_above key (bounds_of rows) ≡ row.span.hi = end_before row.span.hi rows key tiles.2 (is_before_later key lo row.span.hi tiles.1 h) in
    let first : bound_lt row.span.hi row.span.lo ≡ false = ap (bound_lt row.span.hi) tiles.0 ∙ bound_lt_asymmetric lo row.span.hi tiles.1 in
    ap (λ (t : Bool). if t then lesser row.span.lo (end_above key (bounds_of rows)) else end_above key (bounds_of rows)) here
    ∙ (ap (lesser row.span.lo) rest ∙ (ap (λ (t : Bool). if t then row.span.hi else row.span.lo) first ∙ tiles.0))

end_of : (lo : Bound) (rows : List MapRow) (key : Key) (row : MapRow) → AreTiles lo rows → is_before key lo ≡ false → row_with rows key ≡ Some row → end_above key (bounds_of rows) ≡ row.span.hi
unfolding row_with
end_of lo [] key row tiles h found = absurd (none-some row found)
end_of lo (first ∷ rows) key row tiles h found = passed ∙ by_test (end_of first.span.hi rows key row tiles.2) (is_before key first.span.hi) refl
  where
    passed : end_above key (bounds_of (first ∷ rows)) ≡ end_above key (bounds_of rows)
    passed = ap (λ (t : Bool). if t then lesser first.span.lo (end_above key (bounds_of rows)) else end_above key (bounds_of rows)) (ap (is_before key) tiles.0 ∙ h)

    has_if : (t : Bool) → is_before key first.span.hi ≡ t → has first.span key ≡ t
    has_if t e = ap (λ (bound : Bound). not (is_before key bound) && is_before key first.span.hi) tiles.0 ∙ rw (h, e) refl

    picked : (t : Bool) → is_before key first.span.hi ≡ t → cond t (Some first) (find (λ (one : MapRow). has one.span key) rows) ≡ Some row
    picked t e = ap (λ u. cond u (Some first) (find (λ (one : MapRow). has one.span key) rows)) (sym (has_if t e)) ∙ found

    by_test : (is_before key first.span.hi ≡ false → find (λ (one : MapRow). has one.span key) rows ≡ Some row → end_above key (bounds_of rows) ≡ row.span.hi) → (t : Bool) → is_before key first.span.hi ≡ t
        → end_above key (bounds_of rows) ≡ row.span.hi
    by_test later true e = end_before first.span.hi rows key tiles.2 e ∙ ap (λ (one : MapRow). one.span.hi) (same_Some first row (picked true e))
    by_test later false e = later e (picked false e)

-- the least bound above a key is where the span of its row ends
pub end_of_row : (rows : List MapRow) (key : Key) (row : MapRow) → TileKeys rows → row_with rows key ≡ Some row → end_above key (bounds_of rows) ≡ row.span.hi
end_of_row rows key row tiles found = end_of (At 0 []) rows key row tiles (is_before_first_bound key) found

all_above : (x lo : Bound) (rows : List MapRow) → AreTiles lo rows → bound_lt x lo ≡ true → All (λ bound. IsTrue (bound_lt x bound)) (bounds_of rows)
all_above x lo [] tiles h = All-nil (λ bound. IsTrue (bound_lt x bound))
all_above x lo (row ∷ rows) tiles h =
    All-cons (λ bound. IsTrue (bound_lt x bound)) row.span.lo (bounds_of rows) (ap (bound_lt x) tiles.0 ∙ h)
    (all_above x row.span.hi rows tiles.2 (bound_lt_transitive x lo row.span.hi h tiles.1))

bounds_rise : (lo : Bound) (rows : List MapRow) → AreTiles lo rows → AllPairs (λ a b. IsTrue (bound_lt a b)) (bounds_of rows)
bounds_rise lo [] tiles = AllPairs-nil (λ a b. IsTrue (bound_lt a b))
bounds_rise lo (row ∷ rows) tiles =
    AllPairs-cons (λ a b. IsTrue (bound_lt a b)) row.span.lo (bounds_of rows)
    (all_above row.span.lo row.span.hi rows tiles.2 (ap (λ (bound : Bound). bound_lt bound row.span.hi) tiles.0 ∙ tiles.1))
    (bounds_rise row.span.hi rows tiles.2)

bounds_below_end : (lo : Bound) (rows : List MapRow) → AreTiles lo rows → All (λ bound. IsTrue (bound_lt bound End)) (bounds_of rows)
bounds_below_end lo [] tiles = All-nil (λ bound. IsTrue (bound_lt bound End))
bounds_below_end lo (row ∷ rows) tiles =
    All-cons (λ bound. IsTrue (bound_lt bound End)) row.span.lo (bounds_of rows)
    (below_end row.span.lo row.span.hi (ap (λ (bound : Bound). bound_lt bound row.span.hi) tiles.0 ∙ tiles.1))
    (bounds_below_end row.span.hi rows tiles.2)

abbrev is_at : Bound → Bool
is_at (At table pk) = true
is_at End = false

-- the bounds at which the rows begin cut the space of keys
pub are_bounds : (rows : List MapRow) → TileKeys rows → AreBounds (bounds_of rows)
are_bounds [] tiles = absurd (true≢false (ap is_at tiles))
are_bounds (row ∷ rows) tiles = (tiles.0, bounds_rise (At 0 []) (row ∷ rows) tiles, bounds_below_end (At 0 []) (row ∷ rows) tiles)
