-- The boundary that the value of a Content-Type gives (RFC 2046, section 5.1.1).
use Rattle.std.specs.Prelude.{ℕ, List, [], ◌∷◌, length, take, drop, reverse, Bool, false, not, ◌&&◌, ◌==◌, nat_le, Option, Some, None, option_and_then, codes, if◌then◌else◌}
use Rattle.std.specs.List.{list_any}
use Rattle.httparse.specs.Grammar.{trim_ows}
use Rattle.tab_http.specs.Headers.{same_name, cons_first}
use Rattle.tab_batch.specs.declared.TheConstants.{LONGEST_BOUNDARY}

-- what is behind the word, where the text begins with it in any case
abbrev pub behind_word : List ℕ → List ℕ → Option (List ℕ)
behind_word word text = if same_name (take (length word) text) word then Some (drop (length word) text) else None

-- a quote, which is 34, begins and ends what is quoted
abbrev pub turned : Bool → ℕ → Bool
turned quoted b = if b == 34 then not quoted else quoted

-- parted at each semicolon outside of quotes, which is 59
unfoldable pub pieces : Bool → List ℕ → List (List ℕ)
pieces quoted [] = [] ∷ []
pieces quoted (b ∷ bytes) = if b == 59 && not quoted then [] ∷ pieces quoted bytes else cons_first b (pieces (turned quoted b) bytes)

abbrev pub is_quote : ℕ → Bool
is_quote b = b == 34

-- 1 to 70 bytes without a quote
abbrev pub is_boundary : List ℕ → Bool
is_boundary text = not (length text == 0) && nat_le (length text) LONGEST_BOUNDARY && not (list_any is_quote text)

abbrev pub boundary_at : List ℕ → Option (List ℕ)
boundary_at text = if is_boundary text then Some text else None

-- from the last byte on: a quote, and then the boundary
abbrev pub before_quote : List ℕ → Option (List ℕ)
before_quote [] = None
before_quote (b ∷ bytes) = if is_quote b then boundary_at (reverse bytes) else None

-- a boundary between quotes
abbrev pub quoted_boundary : List ℕ → Option (List ℕ)
quoted_boundary [] = None
quoted_boundary (b ∷ bytes) = if is_quote b then before_quote (reverse bytes) else None

-- the boundary that a parameter's value is, as it stands or between quotes
unfoldable pub unquoted : List ℕ → Option (List ℕ)
unquoted text = if is_boundary text then Some text else quoted_boundary text

abbrev pub or_else : {A : Type 0} → Option A → Option A → Option A
or_else None second = second
or_else (Some x) second = Some x

-- the value of the first parameter that is called `boundary`
abbrev pub boundary_parameter : List (List ℕ) → Option (List ℕ)
boundary_parameter [] = None
boundary_parameter (piece ∷ pieces) = or_else (behind_word (codes "boundary=") (trim_ows piece)) (boundary_parameter pieces)

abbrev pub boundary_among : List (List ℕ) → Option (List ℕ)
boundary_among [] = None
boundary_among (kind ∷ parameters) = if same_name (trim_ows kind) (codes "multipart/mixed") then option_and_then unquoted (boundary_parameter parameters) else None

-- the boundary that the value gives
unfoldable pub boundary_of : List ℕ → Option (List ℕ)
boundary_of value = boundary_among (pieces false value)
