-- Where a text of characters exceeds a limit: behind an unfinished phrase, in which as many `(` and `not` are open as may
-- be, or of which as many comparisons are read.
use Rattle.std.specs.Prelude.{◌≡◌, ◌⊎◌, ℕ, zero, suc, ◌+◌, ◌<◌, ◌≤◌, List, [], ◌∷◌, ◌++◌, Bool, true, false, codes}
use Rattle.tab_filter.specs.declared.trees.Operator.{Operator}
use Rattle.tab_filter.specs.declared.parser.TheConstants.{MOST_COMPARISONS}
use Rattle.tab_filter.specs.declared.filter_text.TheConstants.{MOST_OPEN}
use Rattle.tab_filter.specs.declared.filter_text.FilterRefused.{FilterRefused}
use Rattle.tab_filter.specs.declared.filter_text.FilterRefused.TheVariants as refusals
use Rattle.tab_filter.specs.Lexer.{starts, whole_name}
use Rattle.tab_filter.specs.Grammar.{Phrase, blank, text_of, opens, closes, comparisons, operator_text, IsName, IsGap, Level, unary, conjunction, disjunction, Fits, Nests}
use Rattle.tab_filter.specs.Offsets.{IsAtOffset, StopsHere}

-- A phrase up to where a comparison, a group or a negation is due: behind a `(` that no `)` closes yet, and how many
-- spaces; behind a `not` whose phrase is not at its end; or behind a whole phrase and the word `and` or `or`.
pub data Unfinished : Type 0 where
  Due : Unfinished
  InGroup : ℕ → Unfinished → Unfinished
  InNegation : ℕ → Unfinished → Unfinished
  InJoined : Phrase → ℕ → ℕ → Unfinished → Unfinished
  InParted : Phrase → ℕ → ℕ → Unfinished → Unfinished

-- its text, and then the rest
abbrev pub begun : Unfinished → List ℕ → List ℕ
begun Due rest = rest
begun (InGroup a inner) rest = 40 ∷ blank a (begun inner rest)
begun (InNegation a inner) rest = 110 ∷ 111 ∷ 116 ∷ blank a (begun inner rest)
begun (InJoined first a b second) rest = text_of first (blank a (97 ∷ 110 ∷ 100 ∷ blank b (begun second rest)))
begun (InParted first a b second) rest = text_of first (blank a (111 ∷ 114 ∷ blank b (begun second rest)))

-- it begins with a `(`, by whether what is due does
abbrev pub begun_opens : Unfinished → Bool → Bool
begun_opens Due next = next
begun_opens (InGroup a inner) next = true
begun_opens (InNegation a inner) next = false
begun_opens (InJoined first a b second) next = opens first
begun_opens (InParted first a b second) next = opens first

-- the grammar has such phrases, as `Fits` says of whole ones
abbrev pub BegunFits : Level → Unfinished → Bool → Type 0
BegunFits level Due next = Unit {0}
BegunFits level (InGroup a inner) next = BegunFits disjunction inner next
BegunFits level (InNegation a inner) next = IsGap (begun_opens inner next) a × BegunFits unary inner next
BegunFits unary (InJoined first a b second) next = ⊥
BegunFits conjunction (InJoined first a b second) next =
    IsGap (closes first) a × IsGap (begun_opens second next) b × Fits unary first × BegunFits conjunction second next
BegunFits disjunction (InJoined first a b second) next =
    IsGap (closes first) a × IsGap (begun_opens second next) b × Fits unary first × BegunFits conjunction second next
BegunFits unary (InParted first a b second) next = ⊥
BegunFits conjunction (InParted first a b second) next = ⊥
BegunFits disjunction (InParted first a b second) next =
    IsGap (closes first) a × IsGap (begun_opens second next) b × Fits conjunction first × BegunFits disjunction second next

-- at most so many `(` and `not` are open at a time, up to its end
abbrev pub BegunNests : Unfinished → ℕ → Type 0
BegunNests Due depth = Unit {0}
BegunNests (InGroup a inner) zero = ⊥
BegunNests (InGroup a inner) (suc depth) = BegunNests inner depth
BegunNests (InNegation a inner) zero = ⊥
BegunNests (InNegation a inner) (suc depth) = BegunNests inner depth
BegunNests (InJoined first a b second) depth = Nests first depth × BegunNests second depth
BegunNests (InParted first a b second) depth = Nests first depth × BegunNests second depth

-- the `(` and `not` that are open at its end
abbrev pub open_before : Unfinished → ℕ
open_before Due = 0
open_before (InGroup a inner) = suc (open_before inner)
open_before (InNegation a inner) = suc (open_before inner)
open_before (InJoined first a b second) = open_before second
open_before (InParted first a b second) = open_before second

-- the comparisons in it
abbrev pub comparisons_before : Unfinished → ℕ
comparisons_before Due = 0
comparisons_before (InGroup a inner) = comparisons_before inner
comparisons_before (InNegation a inner) = comparisons_before inner
comparisons_before (InJoined first a b second) = comparisons first + comparisons_before second
comparisons_before (InParted first a b second) = comparisons first + comparisons_before second

-- a `(` or the word `not` begins here
abbrev pub BeginsOpening : List ℕ → Type 0
BeginsOpening left = (starts 40 left ≡ true) ⊎ (whole_name left ≡ codes "not")

-- a comparison begins here, up to its operator
pub record BeginsComparison (left : List ℕ) : Type 0 where
  pub name : List ℕ
  pub named : IsName name
  pub spaces : ℕ
  pub some : 0 < spaces
  pub operator : Operator
  pub rest : List ℕ
  pub is : left ≡ name ++ blank spaces (operator_text operator rest)

-- a front is some spaces and an unfinished phrase within the limits
pub record IsUnfinished (phrase : Unfinished) (front left : List ℕ) : Type 0 where
  pub fits : BegunFits disjunction phrase (starts 40 left)
  pub nests : BegunNests phrase MOST_OPEN
  pub few : comparisons_before phrase ≤ MOST_COMPARISONS
  pub before : ℕ
  pub is : front ≡ blank before (begun phrase [])

-- a `(` or a `not` stands here, and as many are open before it as may be
abbrev pub OpensTooMany : List ℕ → List ℕ → Type 0
OpensTooMany front left =
    (phrase : Unfinished) × IsUnfinished phrase front left × (open_before phrase ≡ MOST_OPEN) × BeginsOpening left

-- a comparison begins here, and as many stand before it as may be
abbrev pub ComparesTooMany : List ℕ → List ℕ → Type 0
ComparesTooMany front left =
    (phrase : Unfinished) × IsUnfinished phrase front left × (comparisons_before phrase ≡ MOST_COMPARISONS) × BeginsComparison left

-- where a refusal is, by the grammar alone; of a bad literal `IsRefused` says it
abbrev pub IsPlaced : List ℕ → FilterRefused → Type 0
IsPlaced characters refusals.Memory = Unit {0}
IsPlaced characters (refusals.Syntax at) = IsAtOffset characters at StopsHere ⊎ IsAtOffset characters at OpensTooMany
IsPlaced characters (refusals.BadLiteral at) = Unit {0}
IsPlaced characters refusals.TooManyComparisons =
    (front : List ℕ) × (left : List ℕ) × (characters ≡ front ++ left) × ComparesTooMany front left
