-- The filter language: which texts spell which trees. Texts are lists of characters here.
use Rattle.std.specs.Prelude.{◌≡◌, ℕ, zero, suc, ◌+◌, ◌≤◌, ◌<◌, List, [], ◌∷◌, ◌++◌, length, Bool, true, false, ◌||◌, ◌==◌, Some, if◌then◌else◌, codes, encode_utf8_all}
use Rattle.std.specs.List.{list_all}
use Rattle.uuid.specs.Text.{parsed}
use Rattle.tab_edm.specs.Moments.{IsMoment}
use Rattle.tab_edm.specs.declared.values.Value.{Value}
use Rattle.tab_edm.specs.declared.values.Value.TheVariants.{Text, Flag, Moment, Guid, Bytes}
use Rattle.tab_filter.specs.declared.trees.Operator.{Operator}
use Rattle.tab_filter.specs.declared.trees.Operator.TheVariants.{Equal, NotEqual, Greater, GreaterOrEqual, Less, LessOrEqual}
use Rattle.tab_filter.specs.declared.lexer.TheConstants.{NAME_ROOM}
use Rattle.tab_filter.specs.declared.parser.TheConstants.{MOST_COMPARISONS}
use Rattle.tab_filter.specs.declared.filter_text.TheConstants.{MOST_OPEN}
use Rattle.tab_filter.specs.Trees.{Tree, Compared, Negation, Both, Either}
use Rattle.tab_filter.specs.Lexer.{begins, continues, is_unquoted}
use Rattle.tab_filter.specs.Literals.{is_digit, integer_of, number_of, hex_pairs}

-- ---- literals

-- a text between quotes; an integer by its sign, its digits and whether an `L` follows; a truth value; and the words with
-- quotes, with what stands between these
pub data Literal : Type 0 where
  Quoted : List ℕ → Literal
  Whole : Bool → List ℕ → Bool → Literal
  Truth : Bool → Literal
  Dated : List ℕ → Literal
  Identified : List ℕ → Literal
  Short : List ℕ → Literal
  Long : List ℕ → Literal

-- each quote of a text doubled, and then the rest
abbrev pub doubled : List ℕ → List ℕ → List ℕ
doubled [] rest = rest
doubled (c ∷ cs) rest = if c == 39 then 39 ∷ 39 ∷ doubled cs rest else c ∷ doubled cs rest

abbrev pub sign : Bool → List ℕ
sign true = codes "-"
sign false = []

abbrev pub long_mark : Bool → List ℕ
long_mark true = codes "L"
long_mark false = []

abbrev pub flag_text : Bool → List ℕ
flag_text true = codes "true"
flag_text false = codes "false"

-- a literal's text
abbrev pub literal_text : Literal → List ℕ
literal_text (Quoted text) = 39 ∷ doubled text (39 ∷ [])
literal_text (Whole minus digits long) = sign minus ++ (digits ++ long_mark long)
literal_text (Truth flag) = flag_text flag
literal_text (Dated inside) = codes "datetime" ++ (39 ∷ inside ++ 39 ∷ [])
literal_text (Identified inside) = codes "guid" ++ (39 ∷ inside ++ 39 ∷ [])
literal_text (Short inside) = codes "X" ++ (39 ∷ inside ++ 39 ∷ [])
literal_text (Long inside) = codes "binary" ++ (39 ∷ inside ++ 39 ∷ [])

-- no quote
abbrev pub IsUnquoted : List ℕ → Type 0
IsUnquoted text = list_all is_unquoted text ≡ true

-- a digit at least, and nothing else
abbrev pub AreDigits : List ℕ → Type 0
AreDigits [] = ⊥
AreDigits (c ∷ cs) = list_all is_digit (c ∷ cs) ≡ true

-- the value that a literal has, if it has one
abbrev pub Means : Literal → Value → Type 0
Means (Quoted text) value = value ≡ Text (encode_utf8_all text)
Means (Whole minus digits long) value = AreDigits digits × (integer_of minus (number_of digits) long ≡ Some value)
Means (Truth flag) value = value ≡ Flag flag
Means (Dated inside) value = IsUnquoted inside × (tick : ℕ) × IsMoment (encode_utf8_all inside) tick × (value ≡ Moment tick)
Means (Identified inside) value = IsUnquoted inside × (guid : List ℕ) × (parsed (encode_utf8_all inside) ≡ Some guid) × (value ≡ Guid guid)
Means (Short inside) value = IsUnquoted inside × (bytes : List ℕ) × (hex_pairs inside ≡ Some bytes) × (value ≡ Bytes bytes)
Means (Long inside) value = IsUnquoted inside × (bytes : List ℕ) × (hex_pairs inside ≡ Some bytes) × (value ≡ Bytes bytes)

-- a text is a literal with this value
pub record IsLiteral (value : Value) (text : List ℕ) : Type 0 where
  pub literal : Literal
  pub means : Means literal value
  pub is : text ≡ literal_text literal

-- ---- names and operators

-- at most 255 characters, of which the first begins a name, and the others go on with it
abbrev pub IsName : List ℕ → Type 0
IsName [] = ⊥
IsName (c ∷ cs) = (begins c ≡ true) × (list_all continues cs ≡ true) × (length cs ≤ NAME_ROOM)

-- an operator's letters, and then the rest
abbrev pub operator_text : Operator → List ℕ → List ℕ
operator_text Equal rest = 101 ∷ 113 ∷ rest
operator_text NotEqual rest = 110 ∷ 101 ∷ rest
operator_text Greater rest = 103 ∷ 116 ∷ rest
operator_text GreaterOrEqual rest = 103 ∷ 101 ∷ rest
operator_text Less rest = 108 ∷ 116 ∷ rest
operator_text LessOrEqual rest = 108 ∷ 101 ∷ rest

-- ---- phrases

-- A comparison, by its name, how many spaces, its operator, how many spaces, and a literal with its text; a phrase in
-- parentheses, with how many spaces within them; `not`, how many spaces, and a phrase; two phrases with `and` or `or`
-- between them, with how many spaces before and behind that word.
pub data Phrase : Type 0 where
  Comparing : List ℕ → ℕ → Operator → ℕ → Value → List ℕ → Phrase
  Group : ℕ → Phrase → ℕ → Phrase
  Negated : ℕ → Phrase → Phrase
  Joined : Phrase → ℕ → ℕ → Phrase → Phrase
  Parted : Phrase → ℕ → ℕ → Phrase → Phrase

-- so many spaces, and then the rest
abbrev pub blank : ℕ → List ℕ → List ℕ
blank zero rest = rest
blank (suc n) rest = 32 ∷ blank n rest

-- a phrase's text, and then the rest
abbrev pub text_of : Phrase → List ℕ → List ℕ
text_of (Comparing name a operator b value literal) rest = name ++ blank a (operator_text operator (blank b (literal ++ rest)))
text_of (Group a inner b) rest = 40 ∷ blank a (text_of inner (blank b (41 ∷ rest)))
text_of (Negated a inner) rest = 110 ∷ 111 ∷ 116 ∷ blank a (text_of inner rest)
text_of (Joined first a b second) rest = text_of first (blank a (97 ∷ 110 ∷ 100 ∷ blank b (text_of second rest)))
text_of (Parted first a b second) rest = text_of first (blank a (111 ∷ 114 ∷ blank b (text_of second rest)))

abbrev pub tree_at : Phrase → Tree
tree_at (Comparing name a operator b value literal) = Compared (record { name = encode_utf8_all name; operator = operator; value = value })
tree_at (Group a inner b) = tree_at inner
tree_at (Negated a inner) = Negation (tree_at inner)
tree_at (Joined first a b second) = Both (tree_at first) (tree_at second)
tree_at (Parted first a b second) = Either (tree_at first) (tree_at second)

-- a phrase begins with a `(`
abbrev pub opens : Phrase → Bool
opens (Comparing name a operator b value literal) = false
opens (Group a inner b) = true
opens (Negated a inner) = false
opens (Joined first a b second) = opens first
opens (Parted first a b second) = opens first

-- a phrase ends with a `)`
abbrev pub closes : Phrase → Bool
closes (Comparing name a operator b value literal) = false
closes (Group a inner b) = true
closes (Negated a inner) = closes inner
closes (Joined first a b second) = closes second
closes (Parted first a b second) = closes second

-- a space at least, but beside a parenthesis
abbrev pub IsGap : Bool → ℕ → Type 0
IsGap true n = Unit {0}
IsGap false n = 0 < n

-- a comparison, a group or a negation; those joined by `and`; and those by `or`
pub data Level : Type 0 where
  unary : Level
  conjunction : Level
  disjunction : Level

-- `and` binds closer than `or`, and `not` closer than `and`
abbrev pub Fits : Level → Phrase → Type 0
Fits level (Comparing name a operator b value literal) = IsName name × (0 < a) × (0 < b) × IsLiteral value literal
Fits level (Group a inner b) = Fits disjunction inner
Fits level (Negated a inner) = IsGap (opens inner) a × Fits unary inner
Fits unary (Joined first a b second) = ⊥
Fits conjunction (Joined first a b second) = IsGap (closes first) a × IsGap (opens second) b × Fits unary first × Fits conjunction second
Fits disjunction (Joined first a b second) = IsGap (closes first) a × IsGap (opens second) b × Fits unary first × Fits conjunction second
Fits unary (Parted first a b second) = ⊥
Fits conjunction (Parted first a b second) = ⊥
Fits disjunction (Parted first a b second) = IsGap (closes first) a × IsGap (opens second) b × Fits conjunction first × Fits disjunction second

-- at most so many `(` and `not` are open at a time
abbrev pub Nests : Phrase → ℕ → Type 0
Nests (Comparing name a operator b value literal) depth = Unit {0}
Nests (Group a inner b) zero = ⊥
Nests (Group a inner b) (suc depth) = Nests inner depth
Nests (Negated a inner) zero = ⊥
Nests (Negated a inner) (suc depth) = Nests inner depth
Nests (Joined first a b second) depth = Nests first depth × Nests second depth
Nests (Parted first a b second) depth = Nests first depth × Nests second depth

abbrev pub comparisons : Phrase → ℕ
comparisons (Comparing name a operator b value literal) = 1
comparisons (Group a inner b) = comparisons inner
comparisons (Negated a inner) = comparisons inner
comparisons (Joined first a b second) = comparisons first + comparisons second
comparisons (Parted first a b second) = comparisons first + comparisons second

-- a text is a phrase with this tree, with spaces at both ends
pub record Spells (tree : Tree) (text : List ℕ) : Type 0 where
  pub phrase : Phrase
  pub fits : Fits disjunction phrase
  pub tree_is : tree ≡ tree_at phrase
  pub before : ℕ
  pub after : ℕ
  pub is : text ≡ blank before (text_of phrase (blank after []))

-- and the phrase is within the limits
pub record SpellsWithin (tree : Tree) (text : List ℕ) : Type 0 where
  pub spelled : Spells tree text
  pub nests : Nests spelled.phrase MOST_OPEN
  pub few : comparisons spelled.phrase ≤ MOST_COMPARISONS

-- ---- where a text goes wrong

-- a token ends here
abbrev pub ends_token : List ℕ → Bool
ends_token [] = true
ends_token (b ∷ bs) = b == 32 || b == 40 || b == 41

-- a text of the grammar begins with it, whatever the limits
pub record IsFront (front : List ℕ) : Type 0 where
  pub tree : Tree
  pub more : List ℕ
  pub spelled : Spells tree (front ++ more)

-- no text of the grammar goes on with the next character, whatever the limits; and at the end, it is none within them
abbrev pub NoFurther : List ℕ → List ℕ → Type 0
NoFurther front [] = (tree : Tree) → SpellsWithin tree front → ⊥
NoFurther front (b ∷ left) = (tree : Tree) (more : List ℕ) → Spells tree (front ++ b ∷ more) → ⊥

-- each literal may stand here
abbrev pub IsDue : List ℕ → Type 0
IsDue front = (value : Value) (literal : List ℕ) → IsLiteral value literal → IsFront (front ++ literal)

-- none stands here
abbrev pub NoLiteral : List ℕ → Type 0
NoLiteral left = (value : Value) (literal rest : List ℕ) → IsLiteral value literal → ends_token rest ≡ true → left ≡ literal ++ rest → ⊥
