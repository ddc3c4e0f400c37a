-- Queries that are followed to their end, page by page, and what their pages give together.
use Rattle.std.specs.Prelude.{◌≡◌, ℕ, ◌+◌, ◌/◌, ◌<◌, ◌≤◌, List, [], ◌∷◌, ◌++◌, length, filter, Bool, false, not, ◌&&◌, ◌==◌, All, AllPairs, Contains, IsTrue, IfSome, Some, None, unwrap_or, bytes_eq, ⊤}
use Rattle.std.specs.Ordering.{ordering_then, is_lt}
use Rattle.tab_keys.specs.Order.{text_cmp, key_lt}
use Rattle.tab_keys.specs.TableNames.{folded}
use Rattle.tab_keys.specs.declared.keys.Key.{Key}
use Rattle.tab_keys.specs.declared.bounds.Bound.{Bound}
use Rattle.tab_keys.specs.declared.bounds.Bound.TheVariants.{End}
use Rattle.tab_rows.specs.Rows.{RowView, row_at}
use Rattle.tab_page.specs.Pages.{key_at, matches, window, is_listed, most_looked_at}
use Rattle.tab_page.specs.declared.pages.Options.{Options}
use Rattle.tab_page.specs.declared.pages.Page.{Page}
use Rattle.tab_history.specs.Doubts.{Spares}
use Rattle.tab_history.specs.Legality.{State, accepted, after, after_all}
use Rattle.tab_history.specs.declared.entries.Entry.{Entry}
use Rattle.tab_history.specs.declared.entries.Entry.TheVariants as entry
use Rattle.tab_history.specs.declared.entries.Doubt.{Doubt}
use Rattle.tab_history.specs.declared.entries.Doubt.TheVariants as doubt

-- ---- a followed query and its entries

-- a page that was asked for: the request, the table's name as it spelled it, and what it got
pub record Asked : Type 0 where
  pub ask : ℕ
  pub name : List ℕ
  pub table : ℕ
  pub options : Options
  pub page : Page

-- the look-up of its table's name
abbrev pub resolve_of : Asked → Entry
resolve_of asked = entry.Resolve asked.ask asked.name (Some asked.table)

-- and the page itself
abbrev pub page_entry : Asked → Entry
page_entry asked = entry.Page asked.ask asked.table asked.options asked.page

-- a later page, with all entries since the page before it
pub record Leg : Type 0 where
  pub between : List Entry
  pub asked : Asked

-- the first page with the entries that it waited for since its name was looked up, and the later pages
pub record Query : Type 0 where
  pub waiting : List Entry
  pub first : Asked
  pub legs : List Leg

-- the entries from a page to the last one
abbrev pub entries_from : Asked → List Leg → List Entry
entries_from asked [] = page_entry asked ∷ []
entries_from asked (leg ∷ legs) = page_entry asked ∷ (leg.between ++ entries_from leg.asked legs)

-- the entries from the look-up of the first page to the last page
abbrev pub entries_of : Query → List Entry
entries_of query = resolve_of query.first ∷ (query.waiting ++ entries_from query.first query.legs)

-- the rows from a page to the last one
abbrev pub rows_from : Asked → List Leg → List RowView
rows_from asked [] = asked.page.rows
rows_from asked (leg ∷ legs) = asked.page.rows ++ rows_from leg.asked legs

-- the rows of all pages put together
abbrev pub rows_of : Query → List RowView
rows_of query = rows_from query.first query.legs

-- a page goes on where the one before it ended: it asks the same of a table of the same name, and its name was looked
-- up after that page
pub record GoesOn (before : Asked) (leg : Leg) : Type 0 where
  pub name : folded leg.asked.name ≡ folded before.name
  pub token : List ℕ × List ℕ
  pub next : before.page.next ≡ Some token
  pub options : leg.asked.options ≡ record before.options { start = Some token }
  pub idle : List Entry
  pub waiting : List Entry
  pub between : leg.between ≡ idle ++ resolve_of leg.asked ∷ waiting

-- each page goes on where the one before it ended, and only the last says of no next one
abbrev pub IsFollowedFrom : Asked → List Leg → Type 0
IsFollowedFrom asked [] = asked.page.next ≡ None
IsFollowedFrom asked (leg ∷ legs) = GoesOn asked leg × IsFollowedFrom leg.asked legs

abbrev pub IsFollowed : Query → Type 0
IsFollowed query = IsFollowedFrom query.first query.legs

-- what the history has come to when the first page is given
abbrev pub at_first : State → Query → State
at_first state query = after_all state (resolve_of query.first ∷ query.waiting)

-- ---- what is written meanwhile

-- what holds of each operation that is accepted on the way from a state through entries
abbrev pub EachAccepted : (Doubt → Type 0) → State → List Entry → Type 0
EachAccepted P state [] = ⊤
EachAccepted P state (entry ∷ entries) = IfSome (accepted state.doubts entry) P × EachAccepted P (after state entry) entries

-- no accepted operation changes the row of the key
abbrev pub IsUnchanged : Key → State → List Entry → Type 0
IsUnchanged key state entries = EachAccepted (Spares key) state entries

-- an operation leaves a key under a table's name as it is: the row stays, and so does the name
abbrev pub Leaves : Key → List ℕ → Doubt → Type 0
Leaves key name (doubt.Change table group tick) = Spares key (doubt.Change table group tick)
Leaves key name (doubt.Create own table) = bytes_eq (folded own) (folded name) ≡ false
Leaves key name (doubt.Drop own) = bytes_eq (folded own) (folded name) ≡ false

-- no accepted operation writes the key under the table's name
abbrev pub IsUnwritten : Key → List ℕ → State → List Entry → Type 0
IsUnwritten key name state entries = EachAccepted (Leaves key name) state entries

-- no operation is accepted
abbrev pub IsStill : State → List Entry → Type 0
IsStill state [] = ⊤
IsStill state (entry ∷ entries) = (accepted state.doubts entry ≡ None) × IsStill (after state entry) entries

-- ---- what a followed query gives

-- one key is below another by partition key and row key, whatever their tables
abbrev pub pair_lt : Key → Key → Bool
pair_lt a b = is_lt (ordering_then (text_cmp a.pk b.pk) (text_cmp a.rk b.rk))

-- the key at which the query begins
abbrev pub first_key : Asked → Key
first_key asked = key_at asked.table (unwrap_or asked.options.start ([], []))

-- each row of a page is the one at its key, of the page's table, and one that it asks for
abbrev pub IsRight : State → Asked → Type 0
IsRight state asked =
    All (λ row. (row_at state.world.rows row.key ≡ Some row) × (row.key.table ≡ asked.table) × IsTrue (matches asked.options row)) asked.page.rows

-- so are those of each page from one to the last
abbrev pub AreRight : State → Asked → List Leg → Type 0
AreRight state asked [] = IsRight state asked
AreRight state asked (leg ∷ legs) = IsRight state asked × AreRight (after_all state (page_entry asked ∷ leg.between)) leg.asked legs

-- what each query that is followed to its end in a history gives
pub record FollowedWell (opening : State) (history : List Entry) : Type 0 where
  -- its rows rise by partition key and row key, so each comes once
  pub rising : (before after : List Entry) (query : Query) → history ≡ before ++ (entries_of query ++ after) → IsFollowed query
      → AllPairs (λ a b. IsTrue (pair_lt a.key b.key)) (rows_of query)
  -- each is a row of the world at its page, and one that the query asks for
  pub right : (before after : List Entry) (query : Query) → history ≡ before ++ (entries_of query ++ after) → IsFollowed query
      → AreRight (at_first (after_all opening before) query) query.first query.legs
  -- and each row at the first page that the query asks for, from its beginning on, is one of them, unless its key is
  -- written meanwhile
  pub whole : (before after : List Entry) (query : Query) → history ≡ before ++ (entries_of query ++ after) → IsFollowed query
      → (key : Key) (row : RowView) → row_at (at_first (after_all opening before) query).world.rows key ≡ Some row
      → key.table ≡ query.first.table → IsTrue (not (key_lt key (first_key query.first))) → IsTrue (matches query.first.options row)
      → IsUnwritten key query.first.name (after_all opening before) (entries_of query) → Contains (rows_of query) row

-- ---- where nothing is written meanwhile

-- the row is one that the query asks for, from its beginning on
abbrev pub is_answer : Asked → RowView → Bool
is_answer asked row = row.key.table == asked.table && not (key_lt row.key (first_key asked)) && matches asked.options row

-- the row is one of the table in the query's window
abbrev pub is_in_window : Asked → RowView → Bool
is_in_window asked row = is_listed asked.table (window asked.options) (key_at asked.table ([], [])) End row

-- the list has all bounds in force from here to the end of the entries
abbrev pub HasAllBounds : List Bound → State → List Entry → Type 0
HasAllBounds ever state [] = All (Contains ever) state.bounds
HasAllBounds ever state (entry ∷ entries) = All (Contains ever) state.bounds × HasAllBounds ever (after state entry) entries

-- what such queries give in a history where nothing is written from the look-up of their first page to the last page
pub record FollowedStill (opening : State) (history : List Entry) : Type 0 where
  -- all rows that the query asks for, from its beginning on, in their order
  pub rows : (before after : List Entry) (query : Query) → history ≡ before ++ (entries_of query ++ after) → IsFollowed query → IsStill (after_all opening before) (entries_of query)
      → rows_of query ≡ filter (is_answer query.first) (at_first (after_all opening before) query).world.rows
  -- in so many pages at the most
  pub pages : (before after : List Entry) (query : Query) (ever : List Bound) → history ≡ before ++ (entries_of query ++ after) → IsFollowed query → IsStill (after_all opening before) (entries_of query)
      → 0 < query.first.options.top → HasAllBounds ever (at_first (after_all opening before) query) (entries_from query.first query.legs)
      → length query.legs + 1
      ≤ length (rows_of query) / query.first.options.top
      + length (filter (is_in_window query.first) (at_first (after_all opening before) query).world.rows) / most_looked_at
      + length ever + 1
