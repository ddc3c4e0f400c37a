-- Where nothing is written, a followed query gives all that it asks for, in few pages.
use Rattle.std.proofs.Common.{◌≡◌, ℕ, suc, ◌+◌, ◌*◌, ◌/◌, ◌<◌, ◌≤◌, List, [], ◌∷◌, ◌++◌, Bool, true, false, cond, not, ◌&&◌, ◌==◌, length, filter, All, Contains, refl, sym, ap, ◌∙◌, subst, inl, inr, ◌⊎◌, ⊎_elim, arith}
use Rattle.std.specs.Prelude.{Some, IfSome, IsTrue}
use Rattle.std.specs.List.{AllByRecursion}
use Rattle.std.proofs.Math.Nat.{le-div_iff_mul-le}
use Rattle.std.specs.declared.cmp.Ordering.{Ordering}
use Rattle.std.specs.declared.cmp.Ordering.TheVariants.{Less, Equal, Greater}
use Rattle.std.specs.Ordering.{ordering_then, is_lt}
use Rattle.std.proofs.lemmas.Bool.{true≢false, and_parts, and_from, eqb-true, eq-eqb, not-true}
use Rattle.std.proofs.lemmas.List.Elements.{Contains-append_cases, All-contains_itself}
use Rattle.std.proofs.lemmas.List.Kept.{AllPairs-filter}
use Rattle.tab_keys.specs.Order.{text_cmp, key_lt, is_before}
use Rattle.tab_keys.specs.TableNames.{folded}
use Rattle.tab_keys.specs.declared.keys.Key.{Key}
use Rattle.tab_keys.specs.declared.bounds.Bound.{Bound}
use Rattle.tab_keys.specs.declared.bounds.Bound.TheVariants.{End}
use Rattle.tab_keys.proofs.OrderLaws.{lt_irreflexive, lt_asymmetric, text_cmp-nil}
use Rattle.tab_rows.specs.Rows.{RowView, AreRising}
use Rattle.tab_page.specs.Pages.{key_at, matches, window, start_key, is_listed, most_looked_at}
use Rattle.tab_page.specs.declared.pages.Options.{Options}
use Rattle.tab_page.proofs.RisingLists.{Contains-filter, Contains-filtered, All-from_each, AllPairs-weaker, no_longer, same_rising}
use Rattle.tab_page.proofs.OnePageLaws.{pair_of, key_lt_in_table, pair_from_start, listed_parts, listed_from}
use Rattle.tab_page.proofs.PageCounts.{rows_ahead, matches_ahead, bounds_ahead, count_le, strictly_apart, one_way_rising, page_uses_up}
use Rattle.tab_history.specs.World.{World, IsWorld, table_of}
use Rattle.tab_history.specs.Legality.{State, bounds_after, world_after, after, after_all, Legal}
use Rattle.tab_history.specs.Followed.{Asked, Leg, Query, resolve_of, page_entry, entries_from, entries_of, rows_from, rows_of, IsFollowedFrom, IsFollowed, at_first, Leaves, IsUnwritten, IsStill, pair_lt, first_key, is_answer, is_in_window, HasAllBounds, FollowedStill}
use Rattle.tab_history.specs.declared.entries.Entry.{Entry}
use Rattle.tab_history.proofs.FollowedLaws.{pair_total, row_at-own, page_one, rows_start, rows_rise, looked_up, rows_whole, Had, had, Rises}
use Rattle.tab_history.proofs.DoubtLaws.{LegalSteps}
use Rattle.tab_history.proofs.HistoryLaws.{steps_parts, rising_after, unwritten_name}

-- ---- what stays where no operation is accepted

still_unwritten : (key : Key) (name : List ℕ) (state : State) (entries : List Entry) → IsStill state entries → IsUnwritten key name state entries
still_unwritten key name state [] still = tt
still_unwritten key name state (entry ∷ entries) still =
    (subst (λ operation. IfSome operation (Leaves key name)) (sym still.0) tt, still_unwritten key name (after state entry) entries still.1)

-- what is still is so in its two parts
still_parts : (state : State) (xs ys : List Entry) → IsStill state (xs ++ ys) → IsStill state xs × IsStill (after_all state xs) ys
still_parts state [] ys h = (tt, h)
still_parts state (x ∷ xs) ys h = let rest = still_parts (after state x) xs ys h.1 in ((h.0, rest.0), rest.1)

-- the world stays
still_world : (state : State) (entries : List Entry) → IsStill state entries → (after_all state entries).world ≡ state.world
still_world state [] still = refl
still_world state (entry ∷ entries) still = still_world (after state entry) entries still.1 ∙ ap (world_after state.world) still.0

-- each row is one of the world at the first page, of its table, and one that the query asks for
still_right : (name : List ℕ) (state : State) (asked : Asked) (legs : List Leg) → AreRising state.world.rows → LegalSteps state (entries_from asked legs) → IsFollowedFrom asked legs → IsStill state (entries_from asked legs)
    → folded asked.name ≡ folded name → table_of state.world.names name ≡ Some asked.table
    → (row : RowView) → Contains (rows_from asked legs) row → Contains state.world.rows row × (row.key.table ≡ asked.table) × (matches asked.options row ≡ true)
still_right name state asked [] rising legal followed still folds given row within = (page_one state asked rising legal.0.0).right row within
still_right name state asked (leg ∷ legs) rising legal followed still folds given row within =
    let go = followed.0 in
    let paged = after state (page_entry asked) in
    let parts = steps_parts paged leg.between (entries_from leg.asked legs) legal.1 in
    let stills = still_parts paged leg.between (entries_from leg.asked legs) still.1 in
    let unwritten = still_unwritten (first_key asked) name paged leg.between stills.0 in
    let same = looked_up (first_key asked) name paged asked leg go parts.0 unwritten folds given in
    ⊎_elim
    (λ here. (page_one state asked rising legal.0.0).right row here)
    (λ there.
    let later = still_right name (after_all paged leg.between) leg.asked legs (rising_after paged leg.between parts.0 rising) parts.1 followed.1 stills.1 (go.name ∙ folds)
    (unwritten_name (first_key asked) name paged leg.between (Some asked.table) parts.0 unwritten given ∙ ap Some (sym same)) row there in (
      subst (λ (world : World). Contains world.rows row) (still_world paged leg.between stills.0) later.0,
      later.1 ∙ same,
      sym (ap (λ (options : Options). matches options row) go.options) ∙ later.2,
    ))
    (Contains-append_cases asked.page.rows (rows_from leg.asked legs) row within)

-- what the test of an answer says
answer_parts : (asked : Asked) (row : RowView) → is_answer asked row ≡ true → (row.key.table ≡ asked.table) × (key_lt row.key (first_key asked) ≡ false) × (matches asked.options row ≡ true)
answer_parts asked row h =
    let a = and_parts (row.key.table == asked.table && not (key_lt row.key (first_key asked))) (matches asked.options row) h in
    let b = and_parts (row.key.table == asked.table) (not (key_lt row.key (first_key asked))) a.0 in
    (eqb-true row.key.table asked.table b.0, not-true (key_lt row.key (first_key asked)) b.1, a.1)

answer_from : (asked : Asked) (row : RowView) → row.key.table ≡ asked.table → key_lt row.key (first_key asked) ≡ false → matches asked.options row ≡ true → is_answer asked row ≡ true
answer_from asked row e f m =
    and_from (row.key.table == asked.table && not (key_lt row.key (first_key asked))) (matches asked.options row)
    (and_from (row.key.table == asked.table) (not (key_lt row.key (first_key asked))) (eq-eqb row.key.table asked.table e) (ap not f)) m

pairs_apart : (x y : RowView) → Rises x y → x ≡ y → ⊥
pairs_apart x y h same = true≢false (sym h ∙ (ap (λ (row : RowView). pair_lt x.key row.key) (sym same) ∙ lt_irreflexive pair_total (pair_of x.key)))

pairs_one_way : (x y : RowView) → Rises x y → Rises y x → ⊥
pairs_one_way x y h k = true≢false (sym k ∙ lt_asymmetric pair_total (pair_of x.key) (pair_of y.key) h)

-- the rows of a query that is followed in a still world
still_rows : (state : State) (asked : Asked) (legs : List Leg) → AreRising state.world.rows → LegalSteps state (entries_from asked legs) → IsFollowedFrom asked legs → IsStill state (entries_from asked legs)
    → table_of state.world.names asked.name ≡ Some asked.table → rows_from asked legs ≡ filter (is_answer asked) state.world.rows
still_rows state asked legs rising legal followed still given =
    same_rising Rises pairs_apart pairs_one_way (rows_from asked legs) (filter (is_answer asked) state.world.rows)
    (rows_rise state asked legs rising legal followed)
    (AllPairs-weaker (λ a b. IsTrue (key_lt a.key b.key)) Rises (λ row. row.key.table ≡ asked.table)
    (λ a b e f h. sym (key_lt_in_table a.key b.key (e ∙ sym f)) ∙ h) (filter (is_answer asked) state.world.rows)
    (All-from_each (λ row. row.key.table ≡ asked.table) (filter (is_answer asked) state.world.rows) (λ row within. (answer_parts asked row (Contains-filtered (is_answer asked) state.world.rows row within).1).0))
    (AllPairs-filter (λ a b. IsTrue (key_lt a.key b.key)) (is_answer asked) state.world.rows rising))
    (λ row within.
    let right = still_right asked.name state asked legs rising legal followed still refl given row within in
    Contains-filter (is_answer asked) state.world.rows row right.0
    (answer_from asked row right.1 (key_lt_in_table row.key (first_key asked) right.1 ∙ rows_start state asked legs rising legal followed row within) right.2))
    (λ row within.
    let found = Contains-filtered (is_answer asked) state.world.rows row within in
    let parts = answer_parts asked row found.1 in
    rows_whole row.key asked.name row state asked legs rising legal followed (still_unwritten row.key asked.name state (entries_from asked legs) still) refl given
    (row_at-own state.world.rows rising row found.0) parts.0 parts.2 (sym (key_lt_in_table row.key (first_key asked) parts.0) ∙ parts.1))

-- ---- how many pages

-- as many parts, each of which stands for matches, for rows, or for a bound
record Count (top m r g legs : ℕ) : Type 0 where
  by_matches : ℕ
  by_rows : ℕ
  by_bounds : ℕ
  total : legs ≤ by_matches + by_rows + by_bounds
  matches : by_matches * top ≤ m
  rows : by_rows * most_looked_at ≤ r
  bounds : by_bounds ≤ g

one_more : (top m r g m' r' g' legs : ℕ)
    → (m' ≤ m) × (r' ≤ r) × (g' ≤ g) × ((m' + top ≤ m) ⊎ ((r' + most_looked_at ≤ r) ⊎ (g' + 1 ≤ g)))
    → Count top m' r' g' legs → Count top m r g (suc legs)
one_more top m r g m' r' g' legs (le, few, under, inl used) c = record {
  by_matches = c.by_matches + 1;
  by_rows = c.by_rows;
  by_bounds = c.by_bounds;
  total = let all : legs ≤ c.by_matches + c.by_rows + c.by_bounds = c.total in omega (arith, all);
  matches = let all : c.by_matches * top ≤ m' = c.matches in omega (arith, all, used);
  rows = let all : c.by_rows * most_looked_at ≤ r' = c.rows in omega (arith, all, few);
  bounds = let all : c.by_bounds ≤ g' = c.bounds in omega (arith, all, under);
}
one_more top m r g m' r' g' legs (le, few, under, inr (inl used)) c = record {
  by_matches = c.by_matches;
  by_rows = c.by_rows + 1;
  by_bounds = c.by_bounds;
  total = let all : legs ≤ c.by_matches + c.by_rows + c.by_bounds = c.total in omega (arith, all);
  matches = let all : c.by_matches * top ≤ m' = c.matches in omega (arith, all, le);
  rows = let all : c.by_rows * most_looked_at ≤ r' = c.rows in omega (arith, all, used);
  bounds = let all : c.by_bounds ≤ g' = c.bounds in omega (arith, all, under);
}
one_more top m r g m' r' g' legs (le, few, under, inr (inr used)) c = record {
  by_matches = c.by_matches;
  by_rows = c.by_rows;
  by_bounds = c.by_bounds + 1;
  total = let all : legs ≤ c.by_matches + c.by_rows + c.by_bounds = c.total in omega (arith, all);
  matches = let all : c.by_matches * top ≤ m' = c.matches in omega (arith, all, le);
  rows = let all : c.by_rows * most_looked_at ≤ r' = c.rows in omega (arith, all, few);
  bounds = let all : c.by_bounds ≤ g' = c.bounds in omega (arith, all, used);
}

bounds_behind : (ever : List Bound) (state : State) (xs ys : List Entry) → HasAllBounds ever state (xs ++ ys) → HasAllBounds ever (after_all state xs) ys
bounds_behind ever state [] ys h = h
bounds_behind ever state (x ∷ xs) ys h = bounds_behind ever (after state x) xs ys h.1

abbrev Counted : List Bound → ℕ → List RowView → ℕ → Options → Type 0
Counted ever legs rows table options =
    Count options.top (length (matches_ahead rows table options)) (length (rows_ahead rows table options)) (length (bounds_ahead ever table options)) legs

pages_counted : (name : List ℕ) (ever : List Bound) (state : State) (asked : Asked) (legs : List Leg) → AreRising state.world.rows → LegalSteps state (entries_from asked legs) → IsFollowedFrom asked legs → IsStill state (entries_from asked legs)
    → folded asked.name ≡ folded name → table_of state.world.names name ≡ Some asked.table → HasAllBounds ever state (entries_from asked legs)
    → Counted ever (length legs) state.world.rows asked.table asked.options
pages_counted name ever state asked [] rising legal followed still folds given bounds =
    record { by_matches = 0; by_rows = 0; by_bounds = 0; total = omega arith; matches = omega arith; rows = omega arith; bounds = omega arith }
pages_counted name ever state asked (leg ∷ legs) rising legal followed still folds given bounds =
    let go = followed.0 in
    let paged = after state (page_entry asked) in
    let parts = steps_parts paged leg.between (entries_from leg.asked legs) legal.1 in
    let stills = still_parts paged leg.between (entries_from leg.asked legs) still.1 in
    let unwritten = still_unwritten (first_key asked) name paged leg.between stills.0 in
    let same = looked_up (first_key asked) name paged asked leg go parts.0 unwritten folds given in
    let later = pages_counted name ever (after_all paged leg.between) leg.asked legs (rising_after paged leg.between parts.0 rising) parts.1 followed.1 stills.1 (go.name ∙ folds)
    (unwritten_name (first_key asked) name paged leg.between (Some asked.table) parts.0 unwritten given ∙ ap Some (sym same))
    (bounds_behind ever paged leg.between (entries_from leg.asked legs) bounds.1) in
    let in_world : Counted ever (length legs) state.world.rows leg.asked.table leg.asked.options =
    subst (λ (world : World). Counted ever (length legs) world.rows leg.asked.table leg.asked.options) (still_world paged leg.between stills.0) later in
    let in_table : Counted ever (length legs) state.world.rows asked.table leg.asked.options =
    subst (λ table. Counted ever (length legs) state.world.rows table leg.asked.options) same in_world in
    one_more asked.options.top _ _ _ _ _ _ (length legs)
    (page_uses_up state.world.rows rising state.bounds asked.table asked.options ever bounds.0 go.token (sym (ap (λ page. page.next) legal.0.0.1) ∙ go.next))
    (subst (Counted ever (length legs) state.world.rows asked.table) go.options in_table)

-- a row of a table is not below the table's first key
from_first : (table : ℕ) (row : RowView) → row.key.table ≡ table → key_lt row.key (key_at table ([], [])) ≡ false
from_first table row e = key_lt_in_table row.key (key_at table ([], [])) e ∙ not_less (text_cmp row.key.pk []) (text_cmp row.key.rk []) (text_cmp-nil row.key.pk) (text_cmp-nil row.key.rk)
  where
    not_less : (o p : Ordering) → is_lt o ≡ false → is_lt p ≡ false → is_lt (ordering_then o p) ≡ false
    not_less Less p h k = h
    not_less Equal p h k = k
    not_less Greater p h k = refl

-- the rows ahead are rows in the window, and the matches ahead are answers
ahead_in_window : (rows : List RowView) (asked : Asked) → length (rows_ahead rows asked.table asked.options) ≤ length (filter (is_in_window asked) rows)
ahead_in_window rows asked =
    count_le (is_in_window asked) (is_listed asked.table (window asked.options) (start_key asked.table asked.options) End)
    (λ row h.
    let parts = listed_parts asked.table (window asked.options) (start_key asked.table asked.options) End row h in
    listed_from asked.table (window asked.options) (key_at asked.table ([], [])) End row
    (record { in_table = parts.in_table; from = from_first asked.table row parts.in_table; below = refl; inside = parts.inside }))
    rows

matches_are_answers : (rows : List RowView) → AreRising rows → (asked : Asked) → length (matches_ahead rows asked.table asked.options) ≤ length (filter (is_answer asked) rows)
matches_are_answers rows rising asked =
    let R = λ (a b : RowView). IsTrue (key_lt a.key b.key) in
    let listed = is_listed asked.table (window asked.options) (start_key asked.table asked.options) End in
    no_longer R strictly_apart one_way_rising (matches_ahead rows asked.table asked.options) (filter (is_answer asked) rows)
    (AllPairs-filter R (matches asked.options) (filter listed rows) (AllPairs-filter R listed rows rising))
    (AllPairs-filter R (is_answer asked) rows rising)
    (λ row within.
    let matching = Contains-filtered (matches asked.options) (filter listed rows) row within in
    let found = Contains-filtered listed rows row matching.0 in
    let parts = listed_parts asked.table (window asked.options) (start_key asked.table asked.options) End row found.1 in
    Contains-filter (is_answer asked) rows row found.0
    (answer_from asked row parts.in_table (key_lt_in_table row.key (first_key asked) parts.in_table ∙ pair_from_start asked.table asked.options row.key parts.in_table parts.from) matching.1))

filter_le : {X : Type 0} (p : X → Bool) (xs : List X) → length (filter p xs) ≤ length xs
filter_le p [] = omega arith
filter_le {X} p (x ∷ xs) = by_test (filter_le p xs) (p x)
  where
    by_test : length (filter p xs) ≤ length xs → (t : Bool) → length (cond t (x ∷ filter p xs) (filter p xs)) ≤ length (x ∷ xs)
    by_test rest true = omega (arith, rest)
    by_test rest false = omega (arith, rest)

-- the parts, each counted by what is there for it
pages_bound : (top m r g legs n : ℕ) → 0 < top → Count top m r g legs → (answers rows : ℕ) → m ≤ answers → r ≤ rows → g ≤ n → legs + 1 ≤ answers / top + rows / most_looked_at + n + 1
pages_bound top m r g legs n some c answers rows a b d =
    let all : legs ≤ c.by_matches + c.by_rows + c.by_bounds = c.total in
    let first : c.by_matches ≤ answers / top = (le-div_iff_mul-le {k = top} some).1 (let part : c.by_matches * top ≤ m = c.matches in omega (arith, part, a)) in
    let second : c.by_rows ≤ rows / most_looked_at = (le-div_iff_mul-le {k = most_looked_at} (omega arith)).1 (let part : c.by_rows * most_looked_at ≤ r = c.rows in omega (arith, part, b)) in
    let third : c.by_bounds ≤ n = (let part : c.by_bounds ≤ g = c.bounds in omega (arith, part, d)) in
    omega (arith, all, first, second, third)

-- where the bounds stay, those in force at the beginning are all
all_the_same : (ever : List Bound) (state : State) (entries : List Entry) → state.bounds ≡ ever → AllByRecursion (λ entry. bounds_after ever entry ≡ ever) entries → HasAllBounds ever state entries
all_the_same ever state [] e same = subst (All (Contains ever)) (sym e) (All-contains_itself ever)
all_the_same ever state (entry ∷ entries) e same =
    (subst (All (Contains ever)) (sym e) (All-contains_itself ever), all_the_same ever (after state entry) entries (ap (λ bounds. bounds_after bounds entry) e ∙ same.0) same.1)

pub bounds_that_stay : (state : State) (entries : List Entry) → AllByRecursion (λ entry. bounds_after state.bounds entry ≡ state.bounds) entries → HasAllBounds state.bounds state entries
bounds_that_stay state entries same = all_the_same state.bounds state entries refl same

-- ---- a query in a history

module _ (opening : State) (history : List Entry) (world : IsWorld opening.world) (legal : Legal opening history) (before later : List Entry) (query : Query) (e : history ≡ before ++ (entries_of query ++ later))
    (followed : IsFollowed query) (still : IsStill (after_all opening before) (entries_of query)) where
  abbrev first_state : State
  first_state = at_first (after_all opening before) query

  it : Had opening before query
  it = had opening history before later query world legal e

  stills : IsStill (after_all opening before) (resolve_of query.first ∷ query.waiting) × IsStill first_state (entries_from query.first query.legs)
  stills = still_parts (after_all opening before) (resolve_of query.first ∷ query.waiting) (entries_from query.first query.legs) still

  named : table_of first_state.world.names query.first.name ≡ Some query.first.table
  named =
      unwritten_name (first_key query.first) query.first.name (after_all opening before) (resolve_of query.first ∷ query.waiting) (Some query.first.table) it.first
      (still_unwritten (first_key query.first) query.first.name (after_all opening before) (resolve_of query.first ∷ query.waiting) stills.0) (sym it.first.0.0.0)

  all_answers : rows_of query ≡ filter (is_answer query.first) first_state.world.rows
  all_answers = still_rows first_state query.first query.legs it.rising it.pages followed stills.1 named

  few_pages : (ever : List Bound) → 0 < query.first.options.top → HasAllBounds ever first_state (entries_from query.first query.legs)
      → length query.legs + 1 ≤ length (rows_of query) / query.first.options.top + length (filter (is_in_window query.first) first_state.world.rows) / most_looked_at + length ever + 1
  few_pages ever some bounds =
      pages_bound query.first.options.top _ _ _ (length query.legs) (length ever) some
      (pages_counted query.first.name ever first_state query.first query.legs it.rising it.pages followed stills.1 refl named bounds)
      (length (rows_of query)) (length (filter (is_in_window query.first) first_state.world.rows))
      (subst (λ (rows : List RowView). length (matches_ahead first_state.world.rows query.first.table query.first.options) ≤ length rows) (sym all_answers) (matches_are_answers first_state.world.rows it.rising query.first))
      (ahead_in_window first_state.world.rows query.first)
      (filter_le (is_before (start_key query.first.table query.first.options)) ever)

pub followed_still : (opening : State) (history : List Entry) → IsWorld opening.world → Legal opening history → FollowedStill opening history
followed_still opening history world legal = record {
  rows = λ before later query e followed still. all_answers opening history world legal before later query e followed still;
  pages = λ before later query ever e followed still some bounds. few_pages opening history world legal before later query e followed still ever some bounds;
}
