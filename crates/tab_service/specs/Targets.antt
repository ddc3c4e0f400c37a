-- What the targets of requests name: a path `/ACCOUNT/` and one segment, which is percent-encoded (RFC 3986, section 2.1).
use Rattle.std.specs.Prelude.{ℕ, ◌+◌, ◌-◌, List, [], ◌∷◌, ◌++◌, length, take, drop, Bool, false, not, ◌&&◌, ◌||◌, ◌==◌, Option, Some, None, option_map, option_and_then, if◌then◌else◌, codes, bytes_eq}
use Rattle.std.specs.List.{list_any, position_or_len, before_first, after_first}
use Rattle.std.specs.Str.{is_utf8}
use Rattle.percent_encoding.specs.Percent.{percent_decode}
use Rattle.tab_http.specs.Headers.{same_name}
use Rattle.tab_service.specs.declared.requests.targets.Resource.{Resource}
use Rattle.tab_service.specs.declared.requests.targets.Resource.TheVariants.{Tables, Table, Rows, Row, Batch}

-- ---- paths and queries

-- the path of a target, up to its first `?`, and the query behind that: 63 is the question mark
unfoldable pub path_of : List ℕ → List ℕ
path_of target = take (position_or_len (λ b. b == 63) target) target

unfoldable pub query_of : List ℕ → List ℕ
query_of target = drop (position_or_len (λ b. b == 63) target + 1) target

-- what is behind this front of a text, if it begins so
unfoldable pub behind : List ℕ → List ℕ → Option (List ℕ)
behind front text = if bytes_eq (take (length front) text) front then Some (drop (length front) text) else None

-- ---- segments

-- the byte cannot stand in a segment: `/`
abbrev pub ends_segment : ℕ → Bool
ends_segment b = b == 47

-- bytes that are a text
unfoldable pub text_of : List ℕ → Option (List ℕ)
text_of bytes = if is_utf8 bytes then Some bytes else None

-- the text that a segment decodes to
abbrev pub decoded : List ℕ → Option (List ℕ)
decoded segment = text_of (percent_decode segment)

-- a path's one segment behind that of the account, decoded
abbrev pub one_segment : List ℕ → Option (List ℕ)
one_segment segment = if list_any ends_segment segment then None else decoded segment

-- what is behind the account's segment of a path
abbrev pub path_behind : List ℕ → List ℕ → Option (List ℕ)
path_behind account target = option_and_then (behind (codes "/")) (option_and_then (behind account) (behind (codes "/") target))

abbrev pub segment_in : List ℕ → List ℕ → Option (List ℕ)
segment_in account target = option_and_then one_segment (path_behind account target)

-- ---- the keys of a row: `PartitionKey='P',RowKey='R')`, in which each quote of P and R stands twice

-- a text up to the quote that ends it, and what is behind: 39 is the quote
unfoldable pub quoted : List ℕ → Option (List ℕ × List ℕ)
quoted [] = None
quoted (b ∷ []) = if b == 39 then Some ([], []) else None
quoted (b ∷ c ∷ bytes) =
    if b == 39 then (if c == 39 then option_map (λ found. (39 ∷ found.0, found.1)) (quoted bytes) else Some ([], c ∷ bytes))
    else option_map (λ found. (b ∷ found.0, found.1)) (quoted (c ∷ bytes))

-- the first byte of such a text and what is behind it, if no quote ends it there
abbrev pub doubled_quote : List ℕ → Option (ℕ × List ℕ)
doubled_quote [] = None
doubled_quote (c ∷ bytes) = if c == 39 then Some (39, bytes) else None

unfoldable pub first_inside : List ℕ → Option (ℕ × List ℕ)
first_inside [] = None
first_inside (b ∷ bytes) = if b == 39 then doubled_quote bytes else Some (b, bytes)

-- what is behind a quote
unfoldable pub past_quote : List ℕ → Option (List ℕ)
past_quote [] = None
past_quote (b ∷ bytes) = if b == 39 then Some bytes else None

-- the text behind this name, `=` and a quote, and what is behind it
abbrev pub value_named : List ℕ → List ℕ → Option (List ℕ × List ℕ)
value_named name text = option_and_then quoted (behind name text)

-- a text without the spaces at its front
unfoldable pub without_spaces : List ℕ → List ℕ
without_spaces [] = []
without_spaces (b ∷ bytes) = if b == 32 then without_spaces bytes else b ∷ bytes

-- both keys, if nothing but the closing parenthesis is behind them
abbrev pub closed : List ℕ → List ℕ × List ℕ → Option (List ℕ × List ℕ)
closed pk found = if bytes_eq found.1 (codes ")") then Some (pk, found.0) else None

abbrev pub row_key_behind : List ℕ × List ℕ → Option (List ℕ × List ℕ)
row_key_behind found =
    option_and_then (closed found.0)
    (option_and_then (λ rest. value_named (codes "RowKey='") (without_spaces rest)) (behind (codes ",") found.1))

-- the two keys of an address, behind its name and the parenthesis
unfoldable pub keys_in : List ℕ → Option (List ℕ × List ℕ)
keys_in text = option_and_then row_key_behind (value_named (codes "PartitionKey='") text)

-- ---- resources

-- a text parted at the first such byte, which stands in it
abbrev pub parted : ℕ → List ℕ → Option (List ℕ × List ℕ)
parted byte text =
    if list_any (λ b. b == byte) text then Some (before_first (λ b. b == byte) text, after_first (λ b. b == byte) text) else None

-- the list of tables: `Tables` or `Tables()`, in any case
unfoldable pub is_tables : List ℕ → Bool
is_tables text = same_name text (codes "tables") || same_name text (codes "tables()")

-- the text before this mark, which ends it
unfoldable pub before_mark : List ℕ → List ℕ → Option (List ℕ)
before_mark mark text =
    if bytes_eq text (take (length text - length mark) text ++ mark) then Some (take (length text - length mark) text) else None

abbrev pub name_quoted : List ℕ × List ℕ → Option (List ℕ)
name_quoted parts = if same_name parts.0 (codes "tables(") then before_mark (codes "')") parts.1 else None

-- the NAME of `Tables('NAME')`, with `Tables` in any case: 39 is the quote
unfoldable pub quoted_table : List ℕ → Option (List ℕ)
quoted_table text = option_and_then name_quoted (parted 39 text)

-- a table's name may stand in front: something that begins with neither `$`, which is 36, nor a parenthesis, which is 40
unfoldable pub may_begin_name : List ℕ → Bool
may_begin_name [] = false
may_begin_name (b ∷ bytes) = not (b == 36) && not (b == 40)

-- a row of a table by its keys, which are texts
abbrev pub row_at : List ℕ → List ℕ × List ℕ → Option Resource
row_at name keys = option_and_then (λ pk. option_map (Row name pk) (text_of keys.1)) (text_of keys.0)

-- the rows of a table or one of them, by what is in the parentheses behind its name
abbrev pub in_parentheses : List ℕ × List ℕ → Option Resource
in_parentheses parts = if bytes_eq parts.1 (codes ")") then Some (Rows parts.0) else option_and_then (row_at parts.0) (keys_in parts.1)

abbrev pub address_by : List ℕ → Option (List ℕ × List ℕ) → Option Resource
address_by text None = Some (Rows text)
address_by text (Some parts) = in_parentheses parts

-- `NAME`, `NAME()` and `NAME(PartitionKey='P',RowKey='R')`
unfoldable pub address_of : List ℕ → Option Resource
address_of text = if may_begin_name text then address_by text (parted 40 text) else None

abbrev pub table_or_rows : List ℕ → Option (List ℕ) → Option Resource
table_or_rows text None = address_of text
table_or_rows text (Some name) = Some (Table name)

-- what a segment names; batches have a resource of their own
unfoldable pub resource_of : List ℕ → Option Resource
resource_of text =
    if is_tables text then Some Tables
    else (if bytes_eq text (codes "$batch") then Some Batch
    else table_or_rows text (quoted_table text))

-- what a path names
unfoldable pub resource_in : List ℕ → List ℕ → Option Resource
resource_in account path = option_and_then resource_of (segment_in account path)
