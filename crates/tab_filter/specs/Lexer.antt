-- How the words of a filter's text are read from its front: each reader gives a value with the characters that are left,
-- or why it stopped. Texts are lists of characters here.
use Rattle.std.specs.Prelude.{◌≡◌, ℕ, zero, suc, List, [], ◌∷◌, Bool, false, not, ◌&&◌, ◌||◌, ◌==◌, Option, Some, None, Result, Ok, Err, if◌then◌else◌, codes, bytes_eq}
use Rattle.unicode_ident.specs.Ident.{is_xid_start, is_xid_continue}
use Rattle.tab_keys.specs.Results.{◌>>=◌}
use Rattle.tab_filter.specs.declared.trees.Operator.{Operator}
use Rattle.tab_filter.specs.declared.trees.Operator.TheVariants.{Equal, NotEqual, Greater, GreaterOrEqual, Less, LessOrEqual}
use Rattle.tab_filter.specs.declared.lexer.Joint.{Joint}
use Rattle.tab_filter.specs.declared.lexer.Joint.TheVariants.{And, Or, Neither}
use Rattle.tab_filter.specs.declared.lexer.TheConstants.{NAME_ROOM}
use Rattle.tab_filter.specs.declared.parse_stop.ParseStop.{ParseStop}
use Rattle.tab_filter.specs.declared.parse_stop.ParseStop.TheVariants as stops

-- why reading stops, with the characters that are left: no text of the grammar goes on with the first of them, or they
-- begin with a token that is no literal where one is due, or with a `(` or `not` when as many are open as may be; or a
-- comparison is one too many
pub data ParseFault : Type 0 where
  Syntax : List ℕ → ParseFault
  BadLiteral : List ℕ → ParseFault
  Deep : List ℕ → ParseFault
  TooMany : ParseFault

abbrev pub Read : Type 0 → Type 0
Read A = Result (A × List ℕ) ParseFault

-- A reader stopped for this fault, or memory ran out.
abbrev pub Fails : {Y : Type 0} → ParseStop → Result Y ParseFault → Type 0
Fails stops.Memory read = Unit {0}
Fails (stops.Syntax left) read = read ≡ Err (Syntax left.now)
Fails (stops.BadLiteral left) read = read ≡ Err (BadLiteral left.now)
Fails (stops.Deep left) read = read ≡ Err (Deep left.now)
Fails stops.TooMany read = read ≡ Err TooMany

-- What a reader returned, seen by view, is what reading gives, unless memory ran out.
abbrev pub Parses : {X Y : Type 0} → (X → Y) → Result X ParseStop → Result Y ParseFault → Type 0
Parses view (Ok x) read = read ≡ Ok (view x)
Parses view (Err e) read = Fails e read

-- the text begins with this character
abbrev pub starts : ℕ → List ℕ → Bool
starts c [] = false
starts c (b ∷ bs) = b == c

abbrev pub past_first : List ℕ → List ℕ
past_first [] = []
past_first (b ∷ bs) = bs

-- the longest front of characters that pass the test, and what is behind it
unfoldable pub front_of : (ℕ → Bool) → List ℕ → List ℕ
front_of p [] = []
front_of p (b ∷ bs) = if p b then b ∷ front_of p bs else []

unfoldable pub behind : (ℕ → Bool) → List ℕ → List ℕ
behind p [] = []
behind p (b ∷ bs) = if p b then behind p bs else b ∷ bs

abbrev pub is_space : ℕ → Bool
is_space c = c == 32

abbrev pub is_unquoted : ℕ → Bool
is_unquoted c = not (c == 39)

-- no space, parenthesis or quote
abbrev pub is_plain : ℕ → Bool
is_plain c = not (c == 32 || c == 40 || c == 41 || c == 39)

abbrev pub after_spaces : List ℕ → List ℕ
after_spaces text = behind is_space text

-- one character
abbrev pub expect : ℕ → List ℕ → Read (Unit {0})
expect c text = if starts c text then Ok (tt, past_first text) else Err (Syntax text)

-- one or more spaces
abbrev pub gap_at : List ℕ → Read (Unit {0})
gap_at text = if starts 32 text then Ok (tt, after_spaces text) else Err (Syntax text)

-- any spaces before a `(`, and otherwise one or more
abbrev pub edge_at : List ℕ → Read (Unit {0})
edge_at text = if starts 40 (after_spaces text) then Ok (tt, after_spaces text) else gap_at text

-- the second letter of an operator
abbrev pub letter_at : ℕ → Operator → List ℕ → Read Operator
letter_at c operator text = if starts c text then Ok (operator, past_first text) else Err (Syntax text)

abbrev pub either_letter_at : Operator → ℕ → Operator → List ℕ → Read Operator
either_letter_at first c operator text = if starts 101 text then Ok (first, past_first text) else letter_at c operator text

-- `eq`, `ne`, `ge`, `gt`, `le` or `lt`
unfoldable pub operator_at : List ℕ → Read Operator
operator_at text =
    if starts 101 text then letter_at 113 Equal (past_first text)
    else (if starts 110 text then letter_at 101 NotEqual (past_first text)
    else (if starts 103 text then either_letter_at GreaterOrEqual 116 Greater (past_first text)
    else (if starts 108 text then either_letter_at LessOrEqual 116 Less (past_first text)
    else Err (Syntax text))))

-- the characters that begin a name, and those that go on with it
unfoldable pub begins : ℕ → Bool
begins c = is_xid_start c || c == 95

unfoldable pub continues : ℕ → Bool
continues c = is_xid_continue c

-- the longest front of a name's characters, so many at most, and what is behind it
unfoldable pub name_front : ℕ → List ℕ → List ℕ
name_front zero text = []
name_front (suc n) [] = []
name_front (suc n) (b ∷ bs) = if continues b then b ∷ name_front n bs else []

unfoldable pub name_behind : ℕ → List ℕ → List ℕ
name_behind zero text = text
name_behind (suc n) [] = []
name_behind (suc n) (b ∷ bs) = if continues b then name_behind n bs else b ∷ bs

-- the text begins with a name
abbrev pub starts_name : List ℕ → Bool
starts_name [] = false
starts_name (b ∷ bs) = begins b

-- that name, and what is behind it
unfoldable pub whole_name : List ℕ → List ℕ
whole_name [] = []
whole_name (b ∷ bs) = b ∷ name_front NAME_ROOM bs

abbrev pub behind_name : List ℕ → List ℕ
behind_name text = name_behind NAME_ROOM (past_first text)

-- a name of at most 255 characters
unfoldable pub name_at : List ℕ → Read (List ℕ)
name_at text = if starts_name text then Ok (whole_name text, behind_name text) else Err (Syntax text)

-- the name `not`
unfoldable pub is_not : List ℕ → Bool
is_not name = bytes_eq name (codes "not")

-- the operator with these letters
abbrev pub operator_of : ℕ → ℕ → Option Operator
operator_of a b =
    if a == 101 && b == 113 then Some Equal
    else (if a == 110 && b == 101 then Some NotEqual
    else (if a == 103 && b == 101 then Some GreaterOrEqual
    else (if a == 103 && b == 116 then Some Greater
    else (if a == 108 && b == 101 then Some LessOrEqual
    else (if a == 108 && b == 116 then Some Less else None)))))

-- the operator that a name spells
unfoldable pub operator_named : List ℕ → Option Operator
operator_named [] = None
operator_named (a ∷ []) = None
operator_named (a ∷ b ∷ []) = operator_of a b
operator_named (a ∷ b ∷ c ∷ cs) = None

-- the rest of the words `and` and `or`
abbrev pub and_at : List ℕ → Read Joint
and_at text = expect 110 text >>= λ n. (expect 100 n.1 >>= λ d. Ok (And, d.1))

abbrev pub or_at : List ℕ → Read Joint
or_at text = expect 114 text >>= λ r. Ok (Or, r.1)

-- the word that joins a part to the next, behind a space or a `)`: `and`, `or` or neither
unfoldable pub joint_at : Bool → List ℕ → Read Joint
joint_at closed text =
    if not (closed || starts 32 text) then Ok (Neither, after_spaces text)
    else (if starts 97 (after_spaces text) then and_at (past_first (after_spaces text))
    else (if starts 111 (after_spaces text) then or_at (past_first (after_spaces text))
    else Ok (Neither, after_spaces text)))
