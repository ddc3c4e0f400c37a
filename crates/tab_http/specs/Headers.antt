-- What the headers of a request say of its body and of its connection (RFC 9110 and RFC 9112).
use Rattle.std.specs.Prelude.{ℕ, ◌^◌, Bool, false, ◌||◌, ◌&&◌, ◌==◌, nat_le, nat_lt, List, [], ◌∷◌, map, filter, find, Option, Some, None, Result, Ok, Err, if◌then◌else◌, codes, decimal, bytes_eq, is_some}
use Rattle.std.specs.Char.{to_ascii_lowercase}
use Rattle.std.specs.List.{list_any, list_all}
use Rattle.std.specs.Option.{option_map, option_map_or}
use Rattle.std.specs.Str.Parse.{digits_value}
use Rattle.httparse.specs.Grammar.{trim_ows}
use Rattle.tab_http.specs.declared.messages.Header.{Header}
use Rattle.tab_http.specs.declared.refusals.HttpRefused.{HttpRefused}
use Rattle.tab_http.specs.declared.refusals.HttpRefused.TheVariants.{Malformed, NoLength, BodyTooLong}
use Rattle.tab_http.specs.declared.TheConstants.{LONGEST_BODY}

-- ---- names and values

-- the two are one without ASCII case
abbrev pub same_name : List ℕ → List ℕ → Bool
same_name a b = bytes_eq (map to_ascii_lowercase a) (map to_ascii_lowercase b)

abbrev pub is_named : List ℕ → Header → Bool
is_named name header = same_name header.name name

abbrev pub value_of : Header → List ℕ
value_of header = header.value

-- the value of the first header of that name
abbrev pub first_value : List ℕ → List Header → Option (List ℕ)
first_value name headers = option_map value_of (find (is_named name) headers)

-- ---- the size of the body

-- the number of 64 bits whose decimal the text is: digits without a sign, and without a leading zero but in `0`
unfoldable pub decimal_value : List ℕ → Option ℕ
decimal_value text = let number = digits_value 10 text in if bytes_eq text (decimal number) && nat_lt number (2 ^ 64) then Some number else None

-- all lengths that the headers give are this text
abbrev pub have_length : List ℕ → List Header → Bool
have_length text headers = list_all (λ header. bytes_eq header.value text) (filter (is_named (codes "content-length")) headers)

abbrev pub some_length : Option ℕ → Result (Option ℕ) HttpRefused
some_length None = Err Malformed
some_length (Some length) = Ok (Some length)

abbrev pub length_from : List Header → Option (List ℕ) → Result (Option ℕ) HttpRefused
length_from headers None = Ok None
length_from headers (Some first) = if have_length first headers then some_length (decimal_value first) else Err Malformed

-- the length that the headers give, if they give one; one that is no decimal, and two that differ, are malformed
unfoldable pub announced : List Header → Result (Option ℕ) HttpRefused
announced headers = length_from headers (first_value (codes "content-length") headers)

-- the methods whose requests have to give a length
abbrev pub needs_length : List ℕ → Bool
needs_length method = bytes_eq method (codes "POST") || bytes_eq method (codes "PUT") || bytes_eq method (codes "MERGE") || bytes_eq method (codes "PATCH")

-- the size of a body with that length, by a request of that method
abbrev pub size_for : List ℕ → Option ℕ → Result ℕ HttpRefused
size_for method None = if needs_length method then Err NoLength else Ok 0
size_for method (Some length) = if nat_le length LONGEST_BODY then Ok length else Err BodyTooLong

-- a length that can't be read is refused before a transfer coding, which none is taken of
abbrev pub size_unless_coded : List ℕ → Bool → Result (Option ℕ) HttpRefused → Result ℕ HttpRefused
size_unless_coded method coded (Err refused) = Err refused
size_unless_coded method coded (Ok length) = if coded then Err NoLength else size_for method length

-- the size of the body that follows a head of that method with those headers, or the first refusal
unfoldable pub body_size : List ℕ → List Header → Result ℕ HttpRefused
body_size method headers = size_unless_coded method (is_some (first_value (codes "transfer-encoding") headers)) (announced headers)

-- ---- the connection

-- the pieces, with a byte added to the front of the first
abbrev pub cons_first : ℕ → List (List ℕ) → List (List ℕ)
cons_first b [] = (b ∷ []) ∷ []
cons_first b (piece ∷ pieces) = (b ∷ piece) ∷ pieces

-- the pieces between commas, which are 44
abbrev pub split_commas : List ℕ → List (List ℕ)
split_commas [] = [] ∷ []
split_commas (b ∷ bytes) = if b == 44 then [] ∷ split_commas bytes else cons_first b (split_commas bytes)

-- `close` in any case, with blanks around it
unfoldable pub is_close : List ℕ → Bool
is_close element = same_name (trim_ows element) (codes "close")

-- `close` is among the elements of a list (RFC 9110, sections 5.6.1 and 7.6.1)
unfoldable pub says_close : List ℕ → Bool
says_close value = list_any is_close (split_commas value)

-- a message of HTTP/1.0 closes its connection, and so does one whose first Connection header says it
unfoldable pub closes : ℕ → List Header → Bool
closes minor headers = (minor == 0) || option_map_or says_close (first_value (codes "connection") headers) false
