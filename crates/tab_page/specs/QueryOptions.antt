-- What is kept of a query while its pairs are gone through.
use Rattle.std.specs.Prelude.{ℕ, List, [], ◌∷◌, if◌then◌else◌, Option, Some, None, Result, Ok, Err, bytes_eq, codes}
use Rattle.std.specs.Borrow.{Bor}
use Rattle.std.specs.Option.{option_map}
use Rattle.tab_page.specs.declared.queries.OptionRefused.{OptionRefused}
use Rattle.tab_page.specs.declared.queries.OptionRefused.TheVariants.{BadOption}
use Rattle.tab_page.specs.declared.query_options.OptionSeen.{OptionSeen}
use Rattle.tab_page.specs.declared.query_options.OptionSeen.TheVariants.{Absent, Once, Doubled}
use Rattle.tab_page.specs.declared.query_options.QueryOptions.{QueryOptions}
use Rattle.tab_page.specs.Queries.{decoded, option_at, first_at}

-- a value that is not decoded yet
abbrev pub text_of : Option (Bor (List ℕ)) → Option (List ℕ)
text_of bytes = option_map (λ value. decoded value.now) bytes

-- an option's value as far as a query was read
abbrev pub seen_view : OptionSeen → Result (Option (List ℕ)) OptionRefused
seen_view Absent = Ok None
seen_view (Once bytes) = Ok (Some (decoded bytes.now))
seen_view Doubled = Err BadOption

-- the option stands there once more
abbrev pub once_more : List ℕ → Result (Option (List ℕ)) OptionRefused → Result (Option (List ℕ)) OptionRefused
once_more value (Ok None) = Ok (Some value)
once_more value (Ok (Some other)) = Err BadOption
once_more value (Err why) = Err why

-- a pair may be of this option
abbrev pub seen : List ℕ → List ℕ → List ℕ → Result (Option (List ℕ)) OptionRefused → Result (Option (List ℕ)) OptionRefused
seen word name value given = if bytes_eq name word then once_more value given else given

-- a pair may be the first of this option
abbrev pub first_seen : List ℕ → List ℕ → List ℕ → Option (List ℕ) → Option (List ℕ)
first_seen word name value (Some first) = Some first
first_seen word name value None = if bytes_eq name word then Some value else None

-- the known options
pub record QueryOptionsView : Type 0 where
  pub filter : Result (Option (List ℕ)) OptionRefused
  pub select : Result (Option (List ℕ)) OptionRefused
  pub top : Result (Option (List ℕ)) OptionRefused
  pub partition : Result (Option (List ℕ)) OptionRefused
  pub row : Result (Option (List ℕ)) OptionRefused
  pub table : Result (Option (List ℕ)) OptionRefused
  pub comp : Option (List ℕ)

abbrev pub options_view : QueryOptions → QueryOptionsView
options_view known = record {
  filter = seen_view known.filter;
  select = seen_view known.select;
  top = seen_view known.top;
  partition = seen_view known.partition;
  row = seen_view known.row;
  table = seen_view known.table;
  comp = text_of known.comp;
}

abbrev pub no_options : QueryOptionsView
no_options = record { filter = Ok None; select = Ok None; top = Ok None; partition = Ok None; row = Ok None; table = Ok None; comp = None }

-- with one more pair
abbrev pub with_pair : QueryOptionsView → List ℕ → List ℕ → QueryOptionsView
with_pair known name value = record {
  filter = seen (codes "$filter") name value known.filter;
  select = seen (codes "$select") name value known.select;
  top = seen (codes "$top") name value known.top;
  partition = seen (codes "NextPartitionKey") name value known.partition;
  row = seen (codes "NextRowKey") name value known.row;
  table = seen (codes "NextTableName") name value known.table;
  comp = first_seen (codes "comp") name value known.comp;
}

-- with these pairs
abbrev pub with_pairs : QueryOptionsView → List (List ℕ × List ℕ) → QueryOptionsView
with_pairs known [] = known
with_pairs known ((name, value) ∷ pairs) = with_pairs (with_pair known (decoded name) (decoded value)) pairs

-- the options of a whole query
unfoldable pub options_in : List ℕ → QueryOptionsView
options_in query = record {
  filter = option_at (codes "$filter") query;
  select = option_at (codes "$select") query;
  top = option_at (codes "$top") query;
  partition = option_at (codes "NextPartitionKey") query;
  row = option_at (codes "NextRowKey") query;
  table = option_at (codes "NextTableName") query;
  comp = first_at (codes "comp") query;
}
