-- How literals are read.
use Rattle.std.specs.Prelude.{ℕ, ◌+◌, ◌-◌, ◌*◌, List, [], ◌∷◌, ◌++◌, Bool, true, false, not, ◌&&◌, ◌||◌, ◌==◌, Option, Some, None, Ok, Err, if◌then◌else◌, nat_le, nat_lt, codes, bytes_eq, option_map, ℤ, pos, neg_ℤ, encode_utf8, encode_utf8_all}
use Rattle.uuid.specs.Text.{parsed, is_hex_digit, value_of}
use Rattle.tab_edm.specs.declared.values.Value.{Value}
use Rattle.tab_edm.specs.declared.values.Value.TheVariants.{Text, Flag, Int32, Int64, Moment, Guid, Bytes}
use Rattle.tab_edm.specs.Moments.{moment_of}
use Rattle.tab_filter.specs.Lexer.{Read, Syntax, BadLiteral, starts, past_first, front_of, behind, is_plain, is_unquoted}

-- ---- what stands between quotes: the bytes of the text that ends at the first quote that is not doubled, and the
-- characters behind that quote
abbrev pub with_front : List ℕ → Option (List ℕ × List ℕ) → Option (List ℕ × List ℕ)
with_front front None = None
with_front front (Some x) = Some (front ++ x.0, x.1)

unfoldable pub inside_at : List ℕ → Option (List ℕ × List ℕ)
inside_at [] = None
inside_at (b ∷ []) = if b == 39 then Some ([], []) else None
inside_at (b ∷ c ∷ cs) =
    if b == 39 then (if c == 39 then with_front (encode_utf8 39) (inside_at cs) else Some ([], c ∷ cs)) else with_front (encode_utf8 b) (inside_at (c ∷ cs))

-- ---- numbers
abbrev pub is_digit : ℕ → Bool
is_digit c = nat_le 48 c && nat_le c 57

-- the number, with its sign
abbrev pub signed : Bool → ℕ → ℤ
signed minus n = if minus then neg_ℤ (pos n) else pos n

-- within 64 bits, and within 32
abbrev pub fits_64 : Bool → ℕ → Bool
fits_64 minus n = nat_lt n 9_223_372_036_854_775_808 || (minus && n == 9_223_372_036_854_775_808)

abbrev pub fits_32 : Bool → ℕ → Bool
fits_32 minus n = nat_lt n 2_147_483_648 || (minus && n == 2_147_483_648)

-- an Int32 where it fits 32 bits and has no `L`, and otherwise an Int64
unfoldable pub integer_of : Bool → ℕ → Bool → Option Value
integer_of minus n long =
    if not (fits_64 minus n) then None
    else (if long || not (fits_32 minus n) then Some (Int64 (signed minus n)) else Some (Int32 (signed minus n)))

-- what is behind the digits that make n: digits up to 2 ^ 63, and `L` at the end or not
abbrev pub long_at_end : Bool → ℕ → List ℕ → Option Value
long_at_end minus n [] = integer_of minus n true
long_at_end minus n (c ∷ cs) = None

abbrev pub goes_on : ℕ → ℕ → Bool
goes_on n c = is_digit c && nat_le (n * 10 + (c - 48)) 9_223_372_036_854_775_808

unfoldable pub digits_value : Bool → ℕ → List ℕ → Option Value
digits_value minus n [] = integer_of minus n false
digits_value minus n (c ∷ cs) =
    if c == 76 then long_at_end minus n cs else (if goes_on n c then digits_value minus (n * 10 + (c - 48)) cs else None)

-- one digit at least
abbrev pub starts_digit : List ℕ → Bool
starts_digit [] = false
starts_digit (c ∷ cs) = is_digit c

abbrev pub some_digits : Bool → List ℕ → Option Value
some_digits minus text = if starts_digit text then digits_value minus 0 text else None

unfoldable pub integer_value : List ℕ → Option Value
integer_value text = if starts 45 text then some_digits true (past_first text) else some_digits false text

-- a token without quotes
unfoldable pub plain_value : List ℕ → Option Value
plain_value word =
    if bytes_eq word (codes "true") then Some (Flag true)
    else (if bytes_eq word (codes "false") then Some (Flag false) else integer_value word)

-- ---- bytes
abbrev pub hex_byte : ℕ → ℕ → Option ℕ
hex_byte a b = if is_hex_digit a && is_hex_digit b then Some (value_of a * 16 + value_of b) else None

abbrev pub with_byte : Option ℕ → Option (List ℕ) → Option (List ℕ)
with_byte None others = None
with_byte (Some byte) others = option_map (λ bytes. byte ∷ bytes) others

unfoldable pub hex_pairs : List ℕ → Option (List ℕ)
hex_pairs [] = Some []
hex_pairs (a ∷ []) = None
hex_pairs (a ∷ b ∷ cs) = with_byte (hex_byte a b) (hex_pairs cs)

abbrev pub number_behind : ℕ → List ℕ → ℕ
number_behind n [] = n
number_behind n (c ∷ cs) = number_behind (n * 10 + (c - 48)) cs

-- the number with these digits
unfoldable pub number_of : List ℕ → ℕ
number_of digits = number_behind 0 digits

-- ---- a word, and what stands between the quotes behind it
unfoldable pub guid_of : List ℕ → Option Value
guid_of text = option_map Guid (parsed text)

unfoldable pub prefixed_value : List ℕ → List ℕ → Option Value
prefixed_value word inside =
    if bytes_eq word (codes "datetime") then option_map Moment (moment_of (encode_utf8_all inside))
    else (if bytes_eq word (codes "guid") then guid_of (encode_utf8_all inside)
    else (if bytes_eq word (codes "X") || bytes_eq word (codes "binary") then option_map Bytes (hex_pairs inside) else None))

-- ---- a literal, with its whole text for where one stands that is none
abbrev pub given : List ℕ → Option Value → List ℕ → Read Value
given text None left = Err (BadLiteral text)
given text (Some value) left = Ok (value, left)

abbrev pub quoted : List ℕ → Option (List ℕ × List ℕ) → Read Value
quoted text None = Err (BadLiteral text)
quoted text (Some x) = Ok (Text x.0, x.1)

abbrev pub token_at : List ℕ → List ℕ → List ℕ → Read Value
token_at text [] left = Err (Syntax left)
token_at text (b ∷ bs) left = given text (plain_value (b ∷ bs)) left

-- behind a word's quote
abbrev pub closed_at : List ℕ → List ℕ → List ℕ → List ℕ → Read Value
closed_at text word inside left =
    if starts 39 left then given text (prefixed_value word inside) (past_first left) else Err (BadLiteral text)

abbrev pub quote_at : List ℕ → List ℕ → List ℕ → Read Value
quote_at text [] left = quoted text (inside_at left)
quote_at text (b ∷ bs) left = closed_at text (b ∷ bs) (front_of is_unquoted left) (behind is_unquoted left)

-- what the characters before a space, a parenthesis or a quote begin
abbrev pub word_at : List ℕ → List ℕ → List ℕ → Read Value
word_at text word left = if starts 39 left then quote_at text word (past_first left) else token_at text word left

unfoldable pub literal_at : List ℕ → Read Value
literal_at text = word_at text (front_of is_plain text) (behind is_plain text)
