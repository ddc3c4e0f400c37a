-- What a client hands back of a continuation.
use Rattle.std.specs.Prelude.{◌≡◌, ℕ, List, ◌∷◌, ◌++◌, Some, None, Result, Ok, codes}
use Rattle.tab_page.specs.Queries.{read_options}
use Rattle.tab_page.specs.Tokens.{token_text}
use Rattle.tab_page.specs.declared.TheConstants.{MOST_ROWS}
use Rattle.tab_page.specs.declared.pages.Options.{Options}
use Rattle.tab_page.specs.declared.queries.OptionRefused.{OptionRefused}
use Rattle.tab_page.specs.declared.selects.Select.TheVariants.{All}

-- a query with more options behind it
abbrev pub joined : List ℕ → List ℕ → List ℕ
joined query more = query ++ 38 ∷ more

-- the query that names the key at which the next page begins, each of its two texts as its token
abbrev pub next_query : List ℕ × List ℕ → List ℕ
next_query next = joined (codes "NextPartitionKey=" ++ token_text next.0) (codes "NextRowKey=" ++ token_text next.1)

-- all rows from a key on
abbrev pub all_from : List ℕ × List ℕ → Options
all_from next = record { filter = None; select = All; top = MOST_ROWS; start = Some next }

-- alone it asks for just that start
abbrev pub IsReadAlone : List ℕ × List ℕ → Type 0
IsReadAlone next = ◌≡◌ {A = Result Options OptionRefused} (read_options (next_query next)) (Ok (all_from next))

-- and behind a query that names no start, for what that query asks for, from there on
abbrev pub IsReadBehind : List ℕ → Options → List ℕ × List ℕ → Type 0
IsReadBehind query options next =
    ◌≡◌ {A = Result Options OptionRefused} (read_options query) (Ok options) → options.start ≡ None
    → ◌≡◌ {A = Result Options OptionRefused} (read_options (joined query (next_query next))) (Ok (record options { start = Some next }))
