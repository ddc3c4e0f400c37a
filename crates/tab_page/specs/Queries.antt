-- The options in the query of an address.
use Rattle.std.specs.Prelude.{◌≡◌, ◌≤◌, ◌↔◌, ℕ, ◌+◌, ◌-◌, ◌*◌, List, [], ◌∷◌, map, filter, length, reverse, Bool, not, ◌&&◌, ◌||◌, ◌==◌, nat_le, if◌then◌else◌, Option, Some, None, Result, Ok, Err, bytes_eq, codes}
use Rattle.std.specs.Fmt.{decimal}
use Rattle.std.specs.List.{list_any, slice_split}
use Rattle.std.specs.Option.{ok_or, option_and_then}
use Rattle.std.specs.Str.{chars}
use Rattle.std.specs.Str.Lossy.{utf8_lossy}
use Rattle.form_urlencoded.specs.Form.{raw_pairs, decode}
use Rattle.tab_keys.specs.Results.{◌>>=◌}
use Rattle.tab_filter.specs.Trees.{Tree}
use Rattle.tab_filter.specs.Lexer.{ParseFault}
use Rattle.tab_filter.specs.Parser.{filter_at}
use Rattle.tab_filter.specs.Offsets.{refusal_of}
use Rattle.tab_page.specs.declared.TheConstants.{MOST_ROWS}
use Rattle.tab_page.specs.declared.pages.Options.{Options}
use Rattle.tab_page.specs.declared.queries.OptionRefused.{OptionRefused}
use Rattle.tab_page.specs.declared.queries.OptionRefused.TheVariants.{BadOption, BadTop, BadToken, Filter}
use Rattle.tab_page.specs.declared.selects.Select.{Select}
use Rattle.tab_page.specs.declared.selects.Select.TheVariants.{All, Names}
use Rattle.tab_page.specs.Tokens.{read_token}

-- ---- the options of a query

-- a name or a value as text: `+` is a space, escapes are decoded, and what is no UTF-8 becomes U+FFFD
abbrev pub decoded : List ℕ → List ℕ
decoded bytes = utf8_lossy (decode bytes)

-- the values that stand beside a name, in their order
abbrev pub values : List ℕ → List (List ℕ × List ℕ) → List (List ℕ)
values name [] = []
values name ((other, value) ∷ pairs) =
    if bytes_eq (decoded other) name then decoded value ∷ values name pairs else values name pairs

-- an option stands once at the most
abbrev pub single : List (List ℕ) → Result (Option (List ℕ)) OptionRefused
single [] = Ok None
single (value ∷ []) = Ok (Some value)
single (value ∷ other ∷ more) = Err BadOption

-- the value of an option in a query
unfoldable pub option_at : List ℕ → List ℕ → Result (Option (List ℕ)) OptionRefused
option_at name query = single (values name (raw_pairs query))

abbrev pub first_of : List (List ℕ) → Option (List ℕ)
first_of [] = None
first_of (value ∷ later) = Some value

-- the first value of an option that may stand more than once
unfoldable pub first_at : List ℕ → List ℕ → Option (List ℕ)
first_at name query = first_of (values name (raw_pairs query))

-- ---- how many rows

abbrev pub is_digit : ℕ → Bool
is_digit b = nat_le 48 b && nat_le b 57

-- the number with one more decimal digit, where it is at most 1,000
abbrev pub with_digit : ℕ → ℕ → Option ℕ
with_digit n b = if is_digit b && nat_le (n * 10 + (b - 48)) MOST_ROWS then Some (n * 10 + (b - 48)) else None

abbrev pub with_digits : ℕ → List ℕ → Option ℕ
with_digits n [] = Some n
with_digits n (b ∷ bs) = option_and_then (λ m. with_digits m bs) (with_digit n b)

-- a number from 1 to 1,000 in decimal digits, without a zero before it
abbrev pub read_top : List ℕ → Option ℕ
read_top [] = None
read_top (b ∷ bs) = if b == 48 then None else with_digits 0 (b ∷ bs)

-- so a text is read as a number exactly where it is its decimal text
abbrev pub ReadsDecimals : Type 0
ReadsDecimals = (text : List ℕ) (n : ℕ) → (read_top text ≡ Some n) ↔ ((1 ≤ n) × (n ≤ MOST_ROWS) × (text ≡ decimal n))

-- 1,000 where it is not said
abbrev pub top_of : Option (List ℕ) → Result ℕ OptionRefused
top_of None = Ok MOST_ROWS
top_of (Some text) = ok_or (read_top text) BadTop

-- ---- where the page begins

abbrev pub token_of : List ℕ → Result (List ℕ) OptionRefused
token_of text = ok_or (read_token text) BadToken

-- the empty one where there is no token
abbrev pub row_of : Option (List ℕ) → Result (List ℕ) OptionRefused
row_of None = Ok []
row_of (Some text) = token_of text

-- no row's token stands without its partition's
abbrev pub start_of : Option (List ℕ) → Option (List ℕ) → Result (Option (List ℕ × List ℕ)) OptionRefused
start_of None None = Ok None
start_of None (Some row) = Err BadToken
start_of (Some partition) row = token_of partition >>= λ pk. (row_of row >>= λ rk. Ok (Some (pk, rk)))

-- ---- which rows

abbrev pub filter_read : List ℕ → Result Tree ParseFault → Result (Option Tree) OptionRefused
filter_read text (Ok tree) = Ok (Some tree)
filter_read text (Err fault) = Err (Filter (refusal_of text fault))

abbrev pub filter_of : Option (List ℕ) → Result (Option Tree) OptionRefused
filter_of None = Ok None
filter_of (Some text) = filter_read text (filter_at (chars text))

-- ---- which of their properties

-- a text without the spaces before it
abbrev pub without_spaces : List ℕ → List ℕ
without_spaces [] = []
without_spaces (b ∷ bs) = if b == 32 then without_spaces bs else b ∷ bs

-- and without those behind it
abbrev pub trimmed : List ℕ → List ℕ
trimmed text = reverse (without_spaces (reverse (without_spaces text)))

abbrev pub is_name : List ℕ → Bool
is_name text = not (length text == 0)

-- the names between commas
abbrev pub names_in : List ℕ → List (List ℕ)
names_in text = filter is_name (map trimmed (slice_split (λ b. b == 44) text))

abbrev pub is_star : List ℕ → Bool
is_star name = bytes_eq name (codes "*")

-- `*`, or no name at all, asks for all properties
abbrev pub asks_for_all : List (List ℕ) → Bool
asks_for_all names = length names == 0 || list_any is_star names

abbrev pub selection : List (List ℕ) → Select
selection names = if asks_for_all names then All else Names names

abbrev pub select_of : Option (List ℕ) → Select
select_of None = All
select_of (Some text) = selection (names_in text)

-- ---- the whole

abbrev pub options_of : Option (List ℕ) → Option (List ℕ) → Option (List ℕ) → Option (List ℕ) → Option (List ℕ) → Result Options OptionRefused
options_of filter select top partition row =
    top_of top >>= λ most. (start_of partition row >>= λ start. (filter_of filter >>= λ tree.
    Ok (record { filter = tree; select = select_of select; top = most; start = start })))

-- what a query asks of a table's rows, or the first refusal: an option that stands twice, then `$top`, the tokens and `$filter`
unfoldable pub read_options : List ℕ → Result Options OptionRefused
read_options query =
    option_at (codes "$filter") query >>= λ filter. (option_at (codes "$select") query >>= λ select.
    (option_at (codes "$top") query >>= λ top. (option_at (codes "NextPartitionKey") query >>= λ partition.
    (option_at (codes "NextRowKey") query >>= λ row. options_of filter select top partition row))))

-- which properties a query asks for, or the refusal of its doubled option
unfoldable pub read_select : List ℕ → Result Select OptionRefused
read_select query = option_at (codes "$select") query >>= λ select. Ok (select_of select)
