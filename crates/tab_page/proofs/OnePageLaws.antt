-- What one page has of the rows of a world, where its next page begins, and that no row is lost between the two.
use Rattle.std.proofs.Common.{◌≡◌, ℕ, List, [], ◌∷◌, ◌++◌, Bool, true, false, cond, not, ◌&&◌, ◌==◌, take, drop, filter, Contains, AllPairs, refl, sym, ap, ◌∙◌, subst, inl, inr, ◌⊎◌, ⊎_elim}
use Rattle.std.specs.Prelude.{Option, Some, None, IsTrue, unwrap_or}
use Rattle.std.proofs.lemmas.Bool.{true≢false, and_parts, and_from, eqb-true, eq-eqb, not-true}
use Rattle.std.proofs.lemmas.List.{take-append-drop}
use Rattle.std.proofs.lemmas.List.Elements.{All-contains}
use Rattle.std.proofs.lemmas.List.Kept.{AllPairs-filter}
use Rattle.std.proofs.lemmas.Option.{none-some, same_Some}
use Rattle.std.specs.declared.cmp.Ordering.{Ordering}
use Rattle.std.specs.declared.cmp.Ordering.TheVariants.{Less, Equal, Greater}
use Rattle.std.specs.Ordering.{ordering_then, is_lt, is_eq, nat_cmp}
use Rattle.std.specs.Cmp.{nat_cmp_is, unsigned_Decides, unsigned_ties}
use Rattle.tab_keys.specs.Order.{text_cmp, key_cmp, key_lt, head_key, is_before, bound_lt}
use Rattle.tab_keys.specs.declared.keys.Key.{Key}
use Rattle.tab_keys.specs.declared.bounds.Bound.{Bound}
use Rattle.tab_keys.specs.declared.bounds.Bound.TheVariants.{At, End}
use Rattle.tab_keys.proofs.OrderLaws.{key_lt_irreflexive, key_lt_transitive, key_lt_asymmetric, key_lt_across, key_lt_from_le, is_before_At}
use Rattle.tab_rows.specs.Rows.{RowView, AreRising}
use Rattle.tab_filter.specs.Trees.{Tree}
use Rattle.tab_filter.specs.Windows.{WindowView, has, reaches}
use Rattle.tab_filter.proofs.WindowLaws.{within_window}
use Rattle.tab_filter.proofs.WindowEdges.{starts_low, reaches_up_to}
use Rattle.tab_page.specs.Pages.{seen, passes, matches, window_for, window, key_at, later_key, corner, start_key, lesser, end_above, is_listed, next_of, listed, page_up_to, page_of, page_below, looked_at}
use Rattle.tab_page.specs.declared.pages.Options.{Options}
use Rattle.tab_page.specs.declared.pages.Page.{Page}
use Rattle.tab_rows.proofs.Lists.{AllPairs-head}
use Rattle.tab_page.proofs.RisingLists.{Contains-here, Contains-cons_cases, Contains-nil, Contains-filter, Contains-filtered, Contains-cut, Contains-take, Contains-drop, All-from_each, AllPairs-front, AllPairs-back, AllPairs-across, AllPairs-weaker}

-- ---- pairs

-- one pair is below another, by partition key and then by row key
abbrev pub pair_lt : List ℕ × List ℕ → List ℕ × List ℕ → Bool
pair_lt a b = is_lt (ordering_then (text_cmp a.0 b.0) (text_cmp a.1 b.1))

abbrev pub pair_of : Key → List ℕ × List ℕ
pair_of key = (key.pk, key.rk)

-- the pair at which the options begin
abbrev pub start_pair : Options → List ℕ × List ℕ
start_pair options = unwrap_or options.start ([], [])

-- keys of one table compare as their pairs
pub key_lt_in_table : (a b : Key) → a.table ≡ b.table → key_lt a b ≡ pair_lt (pair_of a) (pair_of b)
unfolding key_cmp
key_lt_in_table a b e = ap (λ (r : Ordering). is_lt (ordering_then r (ordering_then (text_cmp a.pk b.pk) (text_cmp a.rk b.rk)))) (sym (nat_cmp_is a.table b.table Equal e))

-- ---- where a page begins and ends

not_before_later : (a b key : Key) → key_lt key (later_key a b) ≡ false → (key_lt key a ≡ false) × (key_lt key b ≡ false)
not_before_later a b key h = by_test (key_lt a b) refl
  where
    not_below : (c d : Key) → key_lt c d ≡ true → key_lt key d ≡ false → key_lt key c ≡ false
    not_below c d low high = by_lower (key_lt key c) refl
      where
        by_lower : (t : Bool) → key_lt key c ≡ t → key_lt key c ≡ false
        by_lower true e = absurd (true≢false (sym (key_lt_transitive key c d e low) ∙ high))
        by_lower false e = e

    by_test : (t : Bool) → key_lt a b ≡ t → (key_lt key a ≡ false) × (key_lt key b ≡ false)
    by_test true e = let k : key_lt key b ≡ false = ap (λ t. key_lt key (cond t b a)) (sym e) ∙ h in (not_below a b e k, k)
    by_test false e =
        let k : key_lt key a ≡ false = ap (λ t. key_lt key (cond t b a)) (sym e) ∙ h in (k, not_behind k (key_lt key b) refl)
      where
        not_behind : key_lt key a ≡ false → (t : Bool) → key_lt key b ≡ t → key_lt key b ≡ false
        not_behind k true f = absurd (true≢false (sym (key_lt_from_le a key b k f) ∙ e))
        not_behind k false f = f

later_not_before : (a b key : Key) → key_lt key a ≡ false → key_lt key b ≡ false → key_lt key (later_key a b) ≡ false
later_not_before a b key h k = by_test (key_lt a b)
  where
    by_test : (t : Bool) → key_lt key (cond t b a) ≡ false
    by_test true = k
    by_test false = h

module _ (table : ℕ) (options : Options) where
  -- the page begins in the table
  pub start_table : (start_key table options).table ≡ table
  unfolding start_key
  start_table = by_test (key_lt (key_at table (start_pair options)) (key_at table (corner (window options))))
    where
      by_test : (t : Bool) → (cond t (key_at table (corner (window options))) (key_at table (start_pair options))).table ≡ table
      by_test true = refl
      by_test false = refl

  -- and not before the options do
  pub start_after : key_lt (start_key table options) (key_at table (start_pair options)) ≡ false
  unfolding start_key
  start_after =
      (not_before_later (key_at table (start_pair options)) (key_at table (corner (window options))) (start_key table options) (key_lt_irreflexive (start_key table options))).0

  -- a key of the table that is not before the page's start is not before the options' either
  pub pair_from_start : (key : Key) → key.table ≡ table → key_lt key (start_key table options) ≡ false → pair_lt (pair_of key) (start_pair options) ≡ false
  unfolding start_key
  pair_from_start key e h =
      sym (key_lt_in_table key (key_at table (start_pair options)) e)
      ∙ (not_before_later (key_at table (start_pair options)) (key_at table (corner (window options))) key h).0

passes_inside : (filter : Option Tree) (row : RowView) → passes filter row ≡ true → has (window_for filter) row.key.pk row.key.rk ≡ true
passes_inside None row h = refl
passes_inside (Some tree) row h = within_window tree (seen row) h

-- a row that the query asks for lies in its window
pub matches_inside : (options : Options) (row : RowView) → matches options row ≡ true → has (window options) row.key.pk row.key.rk ≡ true
matches_inside options row h = passes_inside options.filter row h

-- and from the page's start on, where it is from the options' on
pub start_from_pair : (table : ℕ) (options : Options) (row : RowView) → row.key.table ≡ table → matches options row ≡ true → pair_lt (pair_of row.key) (start_pair options) ≡ false → key_lt row.key (start_key table options) ≡ false
unfolding start_key
start_from_pair table options row e h k =
    later_not_before (key_at table (start_pair options)) (key_at table (corner (window options))) row.key
    (key_lt_in_table row.key (key_at table (start_pair options)) e ∙ k)
    (key_lt_in_table row.key (key_at table (corner (window options))) e ∙ starts_low (window options) row.key.pk row.key.rk (matches_inside options row h))

behind_lesser : (key : Key) (a b : Bound) → is_before key a ≡ true → is_before key b ≡ true → is_before key (lesser a b) ≡ true
behind_lesser key a b h k = by_test (bound_lt b a)
  where
    by_test : (t : Bool) → is_before key (cond t b a) ≡ true
    by_test true = k
    by_test false = h

-- the least bound above a key is above it
pub end_above-behind : (key : Key) (bounds : List Bound) → is_before key (end_above key bounds) ≡ true
end_above-behind key [] = refl
end_above-behind key (bound ∷ bounds) = by_test (end_above-behind key bounds) (is_before key bound) refl
  where
    by_test : is_before key (end_above key bounds) ≡ true → (t : Bool) → is_before key bound ≡ t → is_before key (cond t (lesser bound (end_above key bounds)) (end_above key bounds)) ≡ true
    by_test rest true e = behind_lesser key bound (end_above key bounds) e rest
    by_test rest false e = rest

-- ---- the rows that a page may look at

-- what the test of a listed row says
pub record IsListed (table : ℕ) (all : WindowView) (start : Key) (end : Bound) (row : RowView) : Type 0 where
  pub in_table : row.key.table ≡ table
  pub from : key_lt row.key start ≡ false
  pub below : is_before row.key end ≡ true
  pub inside : has all row.key.pk row.key.rk ≡ true

pub listed_parts : (table : ℕ) (all : WindowView) (start : Key) (end : Bound) (row : RowView) → is_listed table all start end row ≡ true → IsListed table all start end row
listed_parts table all start end row h =
    let a = and_parts (row.key.table == table && not (key_lt row.key start) && is_before row.key end) (has all row.key.pk row.key.rk) h in
    let b = and_parts (row.key.table == table && not (key_lt row.key start)) (is_before row.key end) a.0 in
    let c = and_parts (row.key.table == table) (not (key_lt row.key start)) b.0 in
    record { in_table = eqb-true row.key.table table c.0; from = not-true (key_lt row.key start) c.1; below = b.1; inside = a.1 }

pub listed_from : (table : ℕ) (all : WindowView) (start : Key) (end : Bound) (row : RowView) → IsListed table all start end row → is_listed table all start end row ≡ true
listed_from table all start end row h =
    and_from (row.key.table == table && not (key_lt row.key start) && is_before row.key end) (has all row.key.pk row.key.rk)
    (and_from (row.key.table == table && not (key_lt row.key start)) (is_before row.key end)
    (and_from (row.key.table == table) (not (key_lt row.key start)) (eq-eqb row.key.table table h.in_table) (ap not h.from)) h.below) h.inside

-- ---- where the next page begins

abbrev pub Rises : RowView → RowView → Type 0
Rises a b = IsTrue (key_lt a.key b.key)

-- with no row left it begins at the end, in the table
pub at_end : (table : ℕ) (all : WindowView) (end : Bound) (token : List ℕ × List ℕ) → next_of table all end [] ≡ Some token → (pk : List ℕ) × (end ≡ At table pk) × (token ≡ (pk, []))
at_end table all (At other pk) token h = by_test (other == table && reaches all pk) refl h
  where
    by_test : (t : Bool) → (other == table && reaches all pk) ≡ t → cond t (Some (pk, [])) None ≡ Some token → (key : List ℕ) × (At other pk ≡ At table key) × (token ≡ (key, []))
    by_test true e k = (pk, ap (λ number. At number pk) (eqb-true other table (and_parts (other == table) (reaches all pk) e).0), sym (same_Some (pk, []) token k))
    by_test false e k = absurd (none-some token k)
at_end table all End token h = absurd (none-some token h)

-- one table lies between a key of its own before a bound and another past it
between : (table other : ℕ) (o : Ordering) → nat_cmp table other ≡ o → (a b : Ordering) → is_lt (ordering_then o a) ≡ true → is_lt (ordering_then o b) ≡ false → (nat_cmp table other ≡ Equal) × (is_lt b ≡ false)
between table other Less e a b h k = absurd (true≢false k)
between table other Equal e a b h k = (e, k)
between table other Greater e a b h k = absurd (true≢false (sym h))

-- a row of the table and the window that is past the end, where the start is not
past_end : (table : ℕ) (all : WindowView) (start : Key) (end : Bound) → start.table ≡ table → is_before start end ≡ true → (row : RowView) → row.key.table ≡ table → has all row.key.pk row.key.rk ≡ true → is_before row.key end ≡ false
    → (token : List ℕ × List ℕ) × (next_of table all end [] ≡ Some token) × (pair_lt (pair_of row.key) token ≡ false)
past_end table all start End starts behind row e inside past = absurd (true≢false past)
past_end table all start (At other pk) starts behind row e inside past =
    let low : is_lt (ordering_then (nat_cmp table other) (text_cmp start.pk pk)) ≡ true = subst (λ number. is_lt (ordering_then (nat_cmp number other) (text_cmp start.pk pk)) ≡ true) starts (sym (is_before_At start other pk) ∙ behind) in
    let high : is_lt (ordering_then (nat_cmp table other) (text_cmp row.key.pk pk)) ≡ false = subst (λ number. is_lt (ordering_then (nat_cmp number other) (text_cmp row.key.pk pk)) ≡ false) e (sym (is_before_At row.key other pk) ∙ past) in
    let parts = between table other (nat_cmp table other) refl (text_cmp start.pk pk) (text_cmp row.key.pk pk) low high in
    let same : table ≡ other = (unsigned_Decides table other).0 (unsigned_ties table other ∙ ap is_eq parts.0) in
    ((pk, []), rw (eq-eqb other table (sym same), reaches_up_to all row.key.pk row.key.rk pk inside parts.1) refl, sym (key_lt_in_table row.key (head_key other pk) (e ∙ same)) ∙ past)

module _ (table : ℕ) (all : WindowView) (start : Key) (end : Bound) where
  abbrev Lists : RowView → Type 0
  Lists row = IsListed table all start end row

  -- each row before it is below it
  pub next_below : (front back : List RowView) → AllPairs Rises (front ++ back) → ((row : RowView) → Contains front row → Lists row) → ((row : RowView) → Contains back row → Lists row)
      → (token : List ℕ × List ℕ) → next_of table all end back ≡ Some token → (row : RowView) → Contains front row → pair_lt (pair_of row.key) token ≡ true
  next_below front (first ∷ back) rising f b token h row within =
      subst (λ pair. pair_lt (pair_of row.key) pair ≡ true) (same_Some (pair_of first.key) token h)
      (sym (key_lt_in_table row.key first.key ((f row within).in_table ∙ sym (b first (Contains-here first back)).in_table))
      ∙ AllPairs-across Rises front (first ∷ back) rising row first within (Contains-here first back))
  next_below front [] rising f b token h row within =
      let at = at_end table all end token h in
      subst (λ pair. pair_lt (pair_of row.key) pair ≡ true) (sym at.2)
      (sym (key_lt_in_table row.key (head_key table at.0) (f row within).in_table) ∙ subst (λ e. is_before row.key e ≡ true) at.1 (f row within).below)

  -- it is not before the start
  next_from : (pair : List ℕ × List ℕ) → key_lt start (key_at table pair) ≡ false → ((key : Key) → key.table ≡ table → key_lt key start ≡ false → pair_lt (pair_of key) pair ≡ false) → is_before start end ≡ true
      → (back : List RowView) → ((row : RowView) → Contains back row → Lists row) → (token : List ℕ × List ℕ) → next_of table all end back ≡ Some token → pair_lt token pair ≡ false
  next_from pair low from behind (first ∷ back) b token h =
      let listed = b first (Contains-here first back) in
      subst (λ t. pair_lt t pair ≡ false) (same_Some (pair_of first.key) token h) (from first.key listed.in_table listed.from)
  next_from pair low from behind [] b token h =
      let at = at_end table all end token h in
      let head : key_lt start (head_key table at.0) ≡ true = subst (λ e. is_before start e ≡ true) at.1 behind in
      subst (λ t. pair_lt t pair ≡ false) (sym at.2)
      (sym (key_lt_in_table (head_key table at.0) (key_at table pair) refl)
      ∙ key_lt_asymmetric (key_at table pair) (head_key table at.0) (key_lt_from_le (key_at table pair) start (head_key table at.0) low head))

  -- what stands among the rows left is not below it
  next_first : (back : List RowView) → AllPairs Rises back → ((row : RowView) → Contains back row → Lists row) → (row : RowView) → Contains back row
      → (token : List ℕ × List ℕ) × (next_of table all end back ≡ Some token) × (pair_lt (pair_of row.key) token ≡ false)
  next_first [] rising b row within = absurd (Contains-nil row within)
  next_first (first ∷ back) rising b row within = (pair_of first.key, refl, sym (key_lt_in_table row.key first.key tables) ∙ not_below (Contains-cons_cases first row back within))
    where
      tables : row.key.table ≡ first.key.table
      tables = (b row within).in_table ∙ sym (b first (Contains-here first back)).in_table

      not_below : (first ≡ row) ⊎ Contains back row → key_lt row.key first.key ≡ false
      not_below (inl same) = subst (λ (other : RowView). key_lt other.key first.key ≡ false) same (key_lt_irreflexive first.key)
      not_below (inr later) = key_lt_asymmetric first.key row.key (All-contains (Rises first) back row (AllPairs-head Rises first back rising) later)

  -- nor is what stands past the end, in the table and the window
  next_past : start.table ≡ table → is_before start end ≡ true → (back : List RowView) → ((row : RowView) → Contains back row → Lists row)
      → (row : RowView) → row.key.table ≡ table → has all row.key.pk row.key.rk ≡ true → is_before row.key end ≡ false
      → (token : List ℕ × List ℕ) × (next_of table all end back ≡ Some token) × (pair_lt (pair_of row.key) token ≡ false)
  next_past starts behind (first ∷ back) b row e inside past =
      let listed = b first (Contains-here first back) in
      (pair_of first.key, refl, sym (key_lt_in_table row.key first.key (e ∙ sym listed.in_table)) ∙ key_lt_asymmetric first.key row.key (key_lt_across first.key row.key end listed.below past))
  next_past starts behind [] b row e inside past = past_end table all start end starts behind row e inside past

-- ---- one page

-- what a page has of the rows
pub record OnePage (rows : List RowView) (table : ℕ) (options : Options) (page : Page) : Type 0 where
  -- its rows rise
  pub rising : AllPairs (λ a b. IsTrue (pair_lt (pair_of a.key) (pair_of b.key))) page.rows
  -- each is one of the table's rows that the query asks for
  pub right : (row : RowView) → Contains page.rows row → Contains rows row × (row.key.table ≡ table) × (matches options row ≡ true)
  -- from the pair on at which the options begin
  pub from : (row : RowView) → Contains page.rows row → pair_lt (pair_of row.key) (start_pair options) ≡ false
  -- and below the pair at which the next page begins
  pub below : (token : List ℕ × List ℕ) → page.next ≡ Some token → (row : RowView) → Contains page.rows row → pair_lt (pair_of row.key) token ≡ true
  -- the next page does not begin before this one
  pub ahead : (token : List ℕ × List ℕ) → page.next ≡ Some token → pair_lt token (start_pair options) ≡ false
  -- each of the table's rows that the query asks for, from the options' start on, is on the page or not below the next one
  pub whole : (row : RowView) → Contains rows row → row.key.table ≡ table → matches options row ≡ true → pair_lt (pair_of row.key) (start_pair options) ≡ false
      → Contains page.rows row ⊎ ((token : List ℕ × List ℕ) × (page.next ≡ Some token) × (pair_lt (pair_of row.key) token ≡ false))

module _ (rows : List RowView) (rising : AreRising rows) (table : ℕ) (options : Options) (end : Bound) (behind : is_before (start_key table options) end ≡ true) (n : ℕ) where
  abbrev its_window : WindowView
  its_window = window options

  abbrev its_start : Key
  its_start = start_key table options

  abbrev its_list : List RowView
  its_list = filter (is_listed table its_window its_start end) rows

  lists : (row : RowView) → Contains its_list row → IsListed table its_window its_start end row
  lists row within = listed_parts table its_window its_start end row (Contains-filtered (is_listed table its_window its_start end) rows row within).1

  pub list_rises : AllPairs Rises (take n its_list ++ drop n its_list)
  list_rises = subst (AllPairs Rises) (sym (take-append-drop n its_list)) (AllPairs-filter Rises (is_listed table its_window its_start end) rows rising)

  looked : (row : RowView) → Contains (filter (matches options) (take n its_list)) row → Contains (take n its_list) row × (matches options row ≡ true)
  looked row within = Contains-filtered (matches options) (take n its_list) row within

  pub front_lists : (row : RowView) → Contains (take n its_list) row → IsListed table its_window its_start end row
  front_lists row within = lists row (Contains-take n its_list row within)

  pub back_lists : (row : RowView) → Contains (drop n its_list) row → IsListed table its_window its_start end row
  back_lists row within = lists row (Contains-drop n its_list row within)

  found : (row : RowView) → Contains rows row → row.key.table ≡ table → matches options row ≡ true → pair_lt (pair_of row.key) (start_pair options) ≡ false
      → Contains (filter (matches options) (take n its_list)) row ⊎ ((token : List ℕ × List ℕ) × (next_of table its_window end (drop n its_list) ≡ Some token) × (pair_lt (pair_of row.key) token ≡ false))
  found row within e m from = by_test (is_before row.key end) refl
    where
      inside : has its_window row.key.pk row.key.rk ≡ true
      inside = matches_inside options row m

      by_test : (t : Bool) → is_before row.key end ≡ t → Contains (filter (matches options) (take n its_list)) row ⊎ ((token : List ℕ × List ℕ) × (next_of table its_window end (drop n its_list) ≡ Some token) × (pair_lt (pair_of row.key) token ≡ false))
      by_test true below =
          let test : is_listed table its_window its_start end row ≡ true = listed_from table its_window its_start end row (record { in_table = e; from = start_from_pair table options row e m from; below = below; inside = inside }) in
          ⊎_elim
          (λ front. inl (Contains-filter (matches options) (take n its_list) row front m))
          (λ back. inr (next_first table its_window its_start end (drop n its_list) (AllPairs-back Rises (take n its_list) (drop n its_list) list_rises) back_lists row back))
          (Contains-cut n its_list row (Contains-filter (is_listed table its_window its_start end) rows row within test))
      by_test false past = inr (next_past table its_window its_start end (start_table table options) behind (drop n its_list) back_lists row e inside past)

  pub one_page : OnePage rows table options (page_up_to table options end n (listed rows table options end))
  unfolding page_up_to listed
  one_page = record {
    rising = AllPairs-filter (λ a b. IsTrue (pair_lt (pair_of a.key) (pair_of b.key))) (matches options) (take n its_list)
        (AllPairs-weaker Rises (λ a b. IsTrue (pair_lt (pair_of a.key) (pair_of b.key))) (IsListed table its_window its_start end)
        (λ a b f g h. sym (key_lt_in_table a.key b.key (f.in_table ∙ sym g.in_table)) ∙ h) (take n its_list) (All-from_each (IsListed table its_window its_start end) (take n its_list) front_lists)
        (AllPairs-front Rises (take n its_list) (drop n its_list) list_rises));
    right = λ row within. let test = looked row within in
        ((Contains-filtered (is_listed table its_window its_start end) rows row (Contains-take n its_list row test.0)).0, (front_lists row test.0).in_table, test.1);
    from = λ row within. let listed = front_lists row (looked row within).0 in pair_from_start table options row.key listed.in_table listed.from;
    below = λ token h row within. next_below table its_window its_start end (take n its_list) (drop n its_list) list_rises front_lists back_lists token h row (looked row within).0;
    ahead = λ token h. next_from table its_window its_start end (start_pair options) (start_after table options) (pair_from_start table options) behind (drop n its_list) back_lists token h;
    whole = found;
  }

-- so it is with the page that a query gets
pub page_of-one : (rows : List RowView) → AreRising rows → (bounds : List Bound) (table : ℕ) (options : Options) → OnePage rows table options (page_of rows bounds table options)
unfolding page_of page_below
page_of-one rows rising bounds table options =
    one_page rows rising table options (end_above (start_key table options) bounds) (end_above-behind (start_key table options) bounds)
    (looked_at rows table options (end_above (start_key table options) bounds))
