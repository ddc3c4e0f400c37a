-- What of a message its sender signs.
use Rattle.std.specs.Prelude.{ℕ, List, [], ◌∷◌, Option, Some, None, option_and_then, if◌then◌else◌, codes}
use Rattle.std.specs.Option.{option_or}
use Rattle.std.specs.List.{list_any}
use Rattle.tab_auth.specs.declared.checks.Signed.{Signed}
use Rattle.tab_http.specs.Headers.{is_named, first_value}
use Rattle.tab_http.specs.declared.messages.Header.{Header}
use Rattle.tab_http.specs.declared.messages.Message.{Message}
use Rattle.tab_page.specs.Queries.{first_at}
use Rattle.tab_service.specs.Targets.{path_of, query_of, text_of}

-- the value of the one header of that name, and none where there are more
unfoldable pub sole_value : List ℕ → List Header → Option (List ℕ)
sole_value name [] = None
sole_value name (header ∷ headers) =
    if is_named name header then (if list_any (is_named name) headers then None else Some header.value) else sole_value name headers

-- the header that counts as the date
abbrev pub date_value : List Header → Option (List ℕ)
date_value headers = option_or (first_value (codes "x-ms-date") headers) (first_value (codes "date") headers)

-- the first value of `comp` in a query
unfoldable pub comp_of : List ℕ → Option (List ℕ)
comp_of query = first_at (codes "comp") query

-- what is signed of these headers, this path and this query: headers that are no texts count as absent
unfoldable pub signed_by : List Header → List ℕ → List ℕ → Signed
signed_by headers path query = record {
  authorization = option_and_then text_of (sole_value (codes "authorization") headers);
  date = option_and_then text_of (date_value headers);
  path = path;
  comp = comp_of query;
}

-- what is signed, and how
unfoldable pub signed_of : Message → Signed
signed_of message = signed_by message.headers (path_of message.target) (query_of message.target)
