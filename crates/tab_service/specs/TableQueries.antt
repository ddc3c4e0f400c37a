-- What a query asks of the list of tables.
use Rattle.std.specs.Prelude.{ℕ, List, Option, Some, None, Result, Ok, Err, codes}
use Rattle.tab_keys.specs.Results.{◌>>=◌}
use Rattle.tab_keys.specs.TableNames.{name_refusal}
use Rattle.tab_keys.specs.declared.table_names.NameRefused.{NameRefused}
use Rattle.tab_page.specs.Queries.{option_at, top_of, token_of}
use Rattle.tab_page.specs.declared.queries.OptionRefused.{OptionRefused}
use Rattle.tab_page.specs.declared.queries.OptionRefused.TheVariants as option
use Rattle.tab_service.specs.declared.refusals.Refusal.{Refusal}
use Rattle.tab_service.specs.declared.refusals.Refusal.TheVariants.{Options, FilterOfTables}
use Rattle.tab_service.specs.declared.requests.table_queries.TableWindow.{TableWindow}

-- what comes next, unless the request was refused before
abbrev pub options_result : {A : Type 0} → Result A OptionRefused → Result A Refusal
options_result (Ok found) = Ok found
options_result (Err why) = Err (Options why)

-- the value of an option, which stands once at the most
unfoldable pub sole_option : List ℕ → List ℕ → Result (Option (List ℕ)) Refusal
sole_option word query = options_result (option_at word query)

-- how many tables
unfoldable pub count_of : Option (List ℕ) → Result ℕ Refusal
count_of top = options_result (top_of top)

abbrev pub token_name : List ℕ → Option NameRefused → Result (Option (List ℕ)) Refusal
token_name name None = Ok (Some name)
token_name name (Some why) = Err (Options option.BadToken)

-- the table that the list begins with, by its token; a token of another text is none
abbrev pub after_of : Option (List ℕ) → Result (Option (List ℕ)) Refusal
after_of None = Ok None
after_of (Some token) = options_result (token_of token) >>= λ name. token_name name (name_refusal name)

-- no filter is taken, however often it stands there
abbrev pub without_filter : Result (Option (List ℕ)) OptionRefused → TableWindow → Result TableWindow Refusal
without_filter (Ok None) window = Ok window
without_filter (Ok (Some filter)) window = Err FilterOfTables
without_filter (Err doubled) window = Err FilterOfTables

-- what is asked, or the first refusal: a doubled option, `$top`, the token, and last a filter, of which none is taken
unfoldable pub table_window : List ℕ → Result TableWindow Refusal
table_window query =
    sole_option (codes "$top") query >>= λ top.
    sole_option (codes "NextTableName") query >>= λ token.
    count_of top >>= λ count.
    after_of token >>= λ after.
    without_filter (option_at (codes "$filter") query) (record { after = after; top = count })
