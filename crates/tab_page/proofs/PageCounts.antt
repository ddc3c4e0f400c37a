-- How much of a query's matches, of its rows and of the bounds each page uses up.
use Rattle.std.proofs.Common.{◌≡◌, ℕ, suc, ◌≤◌, ◌+◌, ◌-◌, ◌||◌, List, [], ◌∷◌, ◌++◌, Bool, true, false, cond, ◌==◌, length, take, drop, filter, Contains, All, AllPairs, refl, sym, ap, ◌∙◌, subst, inl, inr, ◌⊎◌, ⊎_elim, arith}
use Rattle.std.specs.Prelude.{Some}
use Rattle.std.proofs.lemmas.Bool.{true≢false, eqb-true}
use Rattle.std.proofs.lemmas.List.{length-append}
use Rattle.std.proofs.lemmas.List.Elements.{All-contains, Contains-append_cases}
use Rattle.std.proofs.lemmas.List.Kept.{AllPairs-filter}
use Rattle.std.proofs.lemmas.Option.{none-some, same_Some}
use Rattle.tab_keys.specs.Order.{key_lt, head_key, is_before, bound_lt}
use Rattle.tab_keys.specs.declared.keys.Key.{Key}
use Rattle.tab_keys.specs.declared.bounds.Bound.{Bound}
use Rattle.tab_keys.specs.declared.bounds.Bound.TheVariants.{End}
use Rattle.tab_keys.proofs.OrderLaws.{key_lt_irreflexive, key_lt_asymmetric, key_lt_from_le, key_lt_to_le, is_before_from_le}
use Rattle.tab_rows.specs.Rows.{RowView, AreRising}
use Rattle.tab_filter.specs.Windows.{WindowView}
use Rattle.tab_page.specs.Pages.{passes, matches, window, key_at, start_key, end_above, is_listed, next_of, prefix_length, listed, page_up_to, page_of, page_below, looked_at, most_looked_at}
use Rattle.tab_page.specs.declared.pages.Options.{Options}
use Rattle.tab_rows.proofs.Lists.{AllPairs-append}
use Rattle.tab_page.proofs.RisingLists.{Contains-here, Contains-there, Contains-cons_cases, Contains-nil, Contains-filter, Contains-filtered, Contains-take, All-from_each, AllPairs-front, no_longer}
use Rattle.tab_page.proofs.OnePageLaws.{pair_of, key_lt_in_table, start_after, end_above-behind, IsListed, listed_parts, listed_from, Rises, at_end, next_below, list_rises, front_lists, back_lists}

-- ---- how much a page leaves

-- the rows that are left to look at, whatever the bounds
abbrev pub rows_ahead : List RowView → ℕ → Options → List RowView
rows_ahead rows table options = filter (is_listed table (window options) (start_key table options) End) rows

abbrev pub matches_ahead : List RowView → ℕ → Options → List RowView
matches_ahead rows table options = filter (matches options) (rows_ahead rows table options)

-- the bounds above the start
abbrev pub bounds_ahead : List Bound → ℕ → Options → List Bound
bounds_ahead bounds table options = filter (is_before (start_key table options)) bounds

-- where a front ends before its list does, it has the matches or the rows that were wanted
prefix_full : {X : Type 0} (test : X → Bool) (top most : ℕ) (xs : List X) → (drop (prefix_length test top most xs) xs ≡ [])
    ⊎ ((top ≤ length (filter test (take (prefix_length test top most xs) xs))) ⊎ (most ≤ length (take (prefix_length test top most xs) xs)))
prefix_full test top most [] = inl refl
prefix_full {X} test top most (x ∷ xs) = by_end (prefix_full test (top - cond (test x) 1 0) (most - 1) xs) (top == 0) (most == 0) refl refl
  where
    rest : ℕ
    rest = prefix_length test (top - cond (test x) 1 0) (most - 1) xs

    Full : ℕ → Type 0
    Full n = (drop n (x ∷ xs) ≡ []) ⊎ ((top ≤ length (filter test (take n (x ∷ xs)))) ⊎ (most ≤ length (take n (x ∷ xs))))

    more : (t : Bool) → top - cond t 1 0 ≤ length (filter test (take rest xs)) → top ≤ length (cond t (x ∷ filter test (take rest xs)) (filter test (take rest xs)))
    more true h = omega (arith, h)
    more false h = omega (arith, h)

    by_end : (drop rest xs ≡ []) ⊎ ((top - cond (test x) 1 0 ≤ length (filter test (take rest xs))) ⊎ (most - 1 ≤ length (take rest xs))) → (t u : Bool) → (top == 0) ≡ t → (most == 0) ≡ u → Full (cond (t || u) 0 (suc rest))
    by_end ih true u e f = let none : top ≡ 0 = eqb-true top 0 e in inr (inl (omega (arith, none)))
    by_end ih false true e f = let none : most ≡ 0 = eqb-true most 0 f in inr (inr (omega (arith, none)))
    by_end (inl end) false false e f = inl end
    by_end (inr (inl full)) false false e f = inr (inl (more (test x) full))
    by_end (inr (inr full)) false false e f = inr (inr (omega (arith, full)))

pub count_le : {X : Type 0} (p q : X → Bool) → ((x : X) → q x ≡ true → p x ≡ true) → (xs : List X) → length (filter q xs) ≤ length (filter p xs)
count_le p q h [] = omega arith
count_le {X} p q h (x ∷ xs) = by_test (count_le p q h xs) (q x) (p x) refl refl
  where
    by_test : length (filter q xs) ≤ length (filter p xs) → (t u : Bool) → q x ≡ t → p x ≡ u → length (cond t (x ∷ filter q xs) (filter q xs)) ≤ length (cond u (x ∷ filter p xs) (filter p xs))
    by_test rest true true e f = omega (arith, rest)
    by_test rest true false e f = absurd (true≢false (sym (h x e) ∙ f))
    by_test rest false true e f = omega (arith, rest)
    by_test rest false false e f = rest

-- fewer where one element fails
count_lt : {X : Type 0} (p q : X → Bool) → ((x : X) → q x ≡ true → p x ≡ true) → (xs : List X) (y : X) → Contains xs y → p y ≡ true → q y ≡ false → length (filter q xs) + 1 ≤ length (filter p xs)
count_lt p q h [] y within passes fails = absurd (Contains-nil y within)
count_lt {X} p q h (x ∷ xs) y within passes fails = by_test (count_le p q h xs) (λ later. count_lt p q h xs y later passes fails) (Contains-cons_cases x y xs within) (q x) (p x) refl refl
  where
    by_test : length (filter q xs) ≤ length (filter p xs) → (Contains xs y → length (filter q xs) + 1 ≤ length (filter p xs)) → (x ≡ y) ⊎ Contains xs y
        → (t u : Bool) → q x ≡ t → p x ≡ u → length (cond t (x ∷ filter q xs) (filter q xs)) + 1 ≤ length (cond u (x ∷ filter p xs) (filter p xs))
    by_test le lt c true false e f = absurd (true≢false (sym (h x e) ∙ f))
    by_test le lt (inl same) true true e f = absurd (true≢false (sym e ∙ (ap q same ∙ fails)))
    by_test le lt (inl same) false true e f = omega (arith, le)
    by_test le lt (inl same) false false e f = absurd (true≢false (sym passes ∙ (ap p (sym same) ∙ f)))
    by_test le lt (inr later) true true e f = let less : length (filter q xs) + 1 ≤ length (filter p xs) = lt later in omega (arith, less)
    by_test le lt (inr later) false true e f = let less : length (filter q xs) + 1 ≤ length (filter p xs) = lt later in omega (arith, less)
    by_test le lt (inr later) false false e f = lt later

-- the least bound above a key is one of the bounds, if it is not the end of all keys
end_among : (key : Key) (bounds : List Bound) → (end_above key bounds ≡ End) ⊎ Contains bounds (end_above key bounds)
end_among key [] = inl refl
end_among key (bound ∷ bounds) = by_test (end_among key bounds) (is_before key bound) (bound_lt (end_above key bounds) bound)
  where
    by_test : (end_above key bounds ≡ End) ⊎ Contains bounds (end_above key bounds) → (t u : Bool)
        → (cond t (cond u (end_above key bounds) bound) (end_above key bounds) ≡ End) ⊎ Contains (bound ∷ bounds) (cond t (cond u (end_above key bounds) bound) (end_above key bounds))
    by_test rest true false = inr (Contains-here bound bounds)
    by_test (inl none) true true = inl none
    by_test (inr within) true true = inr (Contains-there bound (end_above key bounds) bounds within)
    by_test (inl none) false u = inl none
    by_test (inr within) false u = inr (Contains-there bound (end_above key bounds) bounds within)

-- keys that are not below one another in turn
key_not_below : (a b c : Key) → key_lt a b ≡ false → key_lt b c ≡ false → key_lt a c ≡ false
key_not_below a b c h k = by_test (key_lt a c) refl
  where
    by_test : (t : Bool) → key_lt a c ≡ t → key_lt a c ≡ false
    by_test true e = absurd (true≢false (sym (key_lt_from_le b a c h e) ∙ k))
    by_test false e = e

-- the next page does not begin below the start
token_from : (table : ℕ) (all : WindowView) (start : Key) (end : Bound) → is_before start end ≡ true → (back : List RowView) → ((row : RowView) → Contains back row → IsListed table all start end row)
    → (token : List ℕ × List ℕ) → next_of table all end back ≡ Some token → key_lt (key_at table token) start ≡ false
token_from table all start end behind (first ∷ back) b token h =
    let listed = b first (Contains-here first back) in
    let same : first.key ≡ key_at table (pair_of first.key) = λ i. record { table = listed.in_table i; pk = first.key.pk; rk = first.key.rk } in
    subst (λ pair. key_lt (key_at table pair) start ≡ false) (same_Some (pair_of first.key) token h) (subst (λ key. key_lt key start ≡ false) same listed.from)
token_from table all start end behind [] b token h =
    let at = at_end table all end token h in
    subst (λ pair. key_lt (key_at table pair) start ≡ false) (sym at.2) (key_lt_asymmetric start (head_key table at.0) (subst (λ e. is_before start e ≡ true) at.1 behind))

-- what a page uses up: its matches, the rows that it may look at, or the bound at which it ends
abbrev pub UsesUp : ℕ → ℕ → List Bound → List RowView → ℕ → Options → Options → Type 0
UsesUp top most ever rows table options next =
    (length (matches_ahead rows table next) ≤ length (matches_ahead rows table options)) × (length (rows_ahead rows table next) ≤ length (rows_ahead rows table options)) × (length (bounds_ahead ever table next) ≤ length (bounds_ahead ever table options))
    × ((length (matches_ahead rows table next) + top ≤ length (matches_ahead rows table options))
    ⊎ ((length (rows_ahead rows table next) + most ≤ length (rows_ahead rows table options))
    ⊎ (length (bounds_ahead ever table next) + 1 ≤ length (bounds_ahead ever table options))))

pub strictly_apart : (x y : RowView) → Rises x y → x ≡ y → ⊥
strictly_apart x y h same = true≢false (sym h ∙ (ap (λ (row : RowView). key_lt x.key row.key) (sym same) ∙ key_lt_irreflexive x.key))

pub one_way_rising : (x y : RowView) → Rises x y → Rises y x → ⊥
one_way_rising x y h k = true≢false (sym k ∙ key_lt_asymmetric x.key y.key h)

module _ (rows : List RowView) (rising : AreRising rows) (table : ℕ) (options : Options) (end : Bound) (behind : is_before (start_key table options) end ≡ true) (n : ℕ) (token : List ℕ × List ℕ)
    (next : next_of table (window options) end (drop n (filter (is_listed table (window options) (start_key table options) end) rows)) ≡ Some token) where
  abbrev later : Options
  later = record options { start = Some token }

  abbrev front : List RowView
  front = take n (filter (is_listed table (window options) (start_key table options) end) rows)

  token_after : key_lt (key_at table token) (start_key table options) ≡ false
  token_after = token_from table (window options) (start_key table options) end behind (drop n (filter (is_listed table (window options) (start_key table options) end) rows)) (back_lists rows rising table options end behind n) token next

  later_after : key_lt (start_key table later) (key_at table token) ≡ false
  later_after = start_after table later

  start_rises : key_lt (start_key table later) (start_key table options) ≡ false
  start_rises = key_not_below (start_key table later) (key_at table token) (start_key table options) later_after token_after

  ahead_within : (row : RowView) → Contains (rows_ahead rows table later) row → Contains (rows_ahead rows table options) row
  ahead_within row within =
      let found = Contains-filtered (is_listed table (window options) (start_key table later) End) rows row within in
      let parts = listed_parts table (window options) (start_key table later) End row found.1 in
      Contains-filter (is_listed table (window options) (start_key table options) End) rows row found.0
      (listed_from table (window options) (start_key table options) End row
      (record { in_table = parts.in_table; from = key_not_below row.key (start_key table later) (start_key table options) parts.from start_rises; below = refl; inside = parts.inside }))

  front_within : (row : RowView) → Contains front row → Contains (rows_ahead rows table options) row
  front_within row within =
      let list = filter (is_listed table (window options) (start_key table options) end) rows in
      let found = Contains-filtered (is_listed table (window options) (start_key table options) end) rows row (Contains-take n list row within) in
      let parts = listed_parts table (window options) (start_key table options) end row found.1 in
      Contains-filter (is_listed table (window options) (start_key table options) End) rows row found.0
      (listed_from table (window options) (start_key table options) End row (record { in_table = parts.in_table; from = parts.from; below = refl; inside = parts.inside }))

  front_below : (row other : RowView) → Contains front row → Contains (rows_ahead rows table later) other → Rises row other
  front_below row other here there =
      let list = filter (is_listed table (window options) (start_key table options) end) rows in
      let parts = listed_parts table (window options) (start_key table later) End other (Contains-filtered (is_listed table (window options) (start_key table later) End) rows other there).1 in
      let listed = front_lists rows rising table options end behind n in
      let low : key_lt row.key (key_at table token) ≡ true =
      key_lt_in_table row.key (key_at table token) (listed row here).in_table
      ∙ next_below table (window options) (start_key table options) end front (drop n list) (list_rises rows rising table options end behind n) listed (back_lists rows rising table options end behind n) token next row here in
      key_lt_to_le row.key (key_at table token) other.key low (key_not_below other.key (start_key table later) (key_at table token) parts.from later_after)

  front_rises : AllPairs Rises front
  front_rises =
      let list = filter (is_listed table (window options) (start_key table options) end) rows in AllPairs-front Rises (take n list) (drop n list) (list_rises rows rising table options end behind n)

  ahead_rises : (from : Options) → AllPairs Rises (rows_ahead rows table from)
  ahead_rises from = AllPairs-filter Rises (is_listed table (window from) (start_key table from) End) rows rising

  pub rows_used : length front + length (rows_ahead rows table later) ≤ length (rows_ahead rows table options)
  rows_used =
      let most = no_longer Rises strictly_apart one_way_rising (front ++ rows_ahead rows table later) (rows_ahead rows table options)
      (AllPairs-append Rises front (rows_ahead rows table later) front_rises (ahead_rises later)
      (All-from_each (λ row. All (Rises row) (rows_ahead rows table later)) front (λ row here. All-from_each (Rises row) (rows_ahead rows table later) (λ other there. front_below row other here there))))
      (ahead_rises options)
      (λ row within. ⊎_elim (front_within row) (ahead_within row) (Contains-append_cases front (rows_ahead rows table later) row within)) in
      omega (arith, most, length-append front (rows_ahead rows table later))

  pub matches_used : length (filter (matches options) front) + length (matches_ahead rows table later) ≤ length (matches_ahead rows table options)
  matches_used =
      let passed = filter (matches options) front in
      let left = matches_ahead rows table later in
      let most = no_longer Rises strictly_apart one_way_rising (passed ++ left) (matches_ahead rows table options)
      (AllPairs-append Rises passed left (AllPairs-filter Rises (matches options) front front_rises) (AllPairs-filter Rises (matches options) (rows_ahead rows table later) (ahead_rises later))
      (All-from_each (λ row. All (Rises row) left) passed
      (λ row here. All-from_each (Rises row) left
      (λ other there. front_below row other (Contains-filtered (matches options) front row here).0 (Contains-filtered (matches options) (rows_ahead rows table later) other there).0))))
      (AllPairs-filter Rises (matches options) (rows_ahead rows table options) (ahead_rises options))
      (λ row within.
      ⊎_elim
      (λ here. let found = Contains-filtered (matches options) front row here in Contains-filter (matches options) (rows_ahead rows table options) row (front_within row found.0) found.1)
      (λ there. let found = Contains-filtered (matches options) (rows_ahead rows table later) row there in Contains-filter (matches options) (rows_ahead rows table options) row (ahead_within row found.0) found.1)
      (Contains-append_cases passed left row within)) in
      omega (arith, most, length-append passed left)

  bound_passes : (bound : Bound) → is_before (start_key table later) bound ≡ true → is_before (start_key table options) bound ≡ true
  bound_passes bound h = is_before_from_le (start_key table options) (start_key table later) bound start_rises h

  pub bounds_used : (ever : List Bound) → length (bounds_ahead ever table later) ≤ length (bounds_ahead ever table options)
  bounds_used ever = count_le (is_before (start_key table options)) (is_before (start_key table later)) bound_passes ever

  -- a page that ends at a bound uses it up
  pub end_used : (ever : List Bound) → Contains ever end → drop n (filter (is_listed table (window options) (start_key table options) end) rows) ≡ [] → length (bounds_ahead ever table later) + 1 ≤ length (bounds_ahead ever table options)
  end_used ever within none =
      let at = at_end table (window options) end token (subst (λ back. next_of table (window options) end back ≡ Some token) none next) in
      let fails : is_before (start_key table later) end ≡ false =
      subst (λ bound. is_before (start_key table later) bound ≡ false) (sym at.1) (subst (λ pair. key_lt (start_key table later) (key_at table pair) ≡ false) at.2 later_after) in
      count_lt (is_before (start_key table options)) (is_before (start_key table later)) bound_passes ever end within behind fails

pub page_uses_up : (rows : List RowView) → AreRising rows → (bounds : List Bound) (table : ℕ) (options : Options) (ever : List Bound) → All (Contains ever) bounds
    → (token : List ℕ × List ℕ) → (page_of rows bounds table options).next ≡ Some token → UsesUp options.top most_looked_at ever rows table options (record options { start = Some token })
unfolding page_of page_below page_up_to listed looked_at
page_uses_up rows rising bounds table options ever all token next = (
  omega (arith, matches_used rows rising table options end behind n token next),
  omega (arith, rows_used rows rising table options end behind n token next),
  bounds_used rows rising table options end behind n token next ever,
  by_end (prefix_full (matches options) options.top most_looked_at list),
)
  where
    end : Bound
    end = end_above (start_key table options) bounds

    behind : is_before (start_key table options) end ≡ true
    behind = end_above-behind (start_key table options) bounds

    list : List RowView
    list = filter (is_listed table (window options) (start_key table options) end) rows

    n : ℕ
    n = prefix_length (matches options) options.top most_looked_at list

    by_end : (drop n list ≡ []) ⊎ ((options.top ≤ length (filter (matches options) (take n list))) ⊎ (most_looked_at ≤ length (take n list)))
        → (length (matches_ahead rows table (record options { start = Some token })) + options.top ≤ length (matches_ahead rows table options))
        ⊎ ((length (rows_ahead rows table (record options { start = Some token })) + most_looked_at ≤ length (rows_ahead rows table options))
        ⊎ (length (bounds_ahead ever table (record options { start = Some token })) + 1 ≤ length (bounds_ahead ever table options)))
    by_end (inr (inl full)) = inl (omega (arith, full, matches_used rows rising table options end behind n token next))
    by_end (inr (inr full)) = inr (inl (omega (arith, full, rows_used rows rising table options end behind n token next)))
    by_end (inl none) = inr (inr (by_bound (end_among (start_key table options) bounds)))
      where
        by_bound : (end ≡ End) ⊎ Contains bounds end → length (bounds_ahead ever table (record options { start = Some token })) + 1 ≤ length (bounds_ahead ever table options)
        by_bound (inr within) = end_used rows rising table options end behind n token next ever (All-contains (Contains ever) bounds end all within) none
        by_bound (inl last) = absurd (none-some token (subst (λ bound. next_of table (window options) bound [] ≡ Some token) last (subst (λ back. next_of table (window options) end back ≡ Some token) none next)))
