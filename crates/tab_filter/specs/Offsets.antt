-- Offsets in a text that is no filter.
use Rattle.std.specs.Prelude.{◌≡◌, ◌⊎◌, ℕ, ◌-◌, List, ◌++◌, length, Result, Ok, Err, encode_utf8_all}
use Rattle.tab_filter.specs.declared.filter_text.FilterRefused.{FilterRefused}
use Rattle.tab_filter.specs.declared.filter_text.FilterRefused.TheVariants as refusals
use Rattle.tab_filter.specs.declared.parse_stop.ParseStop.{ParseStop}
use Rattle.tab_filter.specs.declared.parse_stop.ParseStop.TheVariants as stops
use Rattle.tab_filter.specs.Trees.{Tree}
use Rattle.tab_filter.specs.Lexer.{ParseFault, Syntax, BadLiteral, Deep, TooMany}
use Rattle.tab_filter.specs.Parser.{filter_at}
use Rattle.tab_filter.specs.Grammar.{SpellsWithin, IsFront, NoFurther, IsDue, NoLiteral}

-- the byte at which the characters that are left begin
abbrev pub offset_of : List ℕ → List ℕ → ℕ
offset_of text left = length text - length (encode_utf8_all left)

abbrev pub refusal_of : List ℕ → ParseFault → FilterRefused
refusal_of text (Syntax left) = refusals.Syntax (offset_of text left)
refusal_of text (BadLiteral left) = refusals.BadLiteral (offset_of text left)
refusal_of text (Deep left) = refusals.Syntax (offset_of text left)
refusal_of text TooMany = refusals.TooManyComparisons

abbrev pub ErrIs : List ℕ → FilterRefused → Result Tree ParseFault → Type 0
ErrIs text refused (Ok tree) = ⊥
ErrIs text refused (Err fault) = refused ≡ refusal_of text fault

-- What a function returned is what reading gives, unless memory ran out.
abbrev pub Refuses : List ℕ → FilterRefused → Result Tree ParseFault → Type 0
Refuses text refusals.Memory read = Unit {0}
Refuses text (refusals.Syntax at) read = ErrIs text (refusals.Syntax at) read
Refuses text (refusals.BadLiteral at) read = ErrIs text (refusals.BadLiteral at) read
Refuses text refusals.TooManyComparisons read = ErrIs text refusals.TooManyComparisons read

abbrev pub Answers : List ℕ → Result Tree FilterRefused → Result Tree ParseFault → Type 0
Answers text (Ok tree) read = read ≡ Ok tree
Answers text (Err refused) read = Refuses text refused read

-- The refusal that is made of where the reading of characters stopped.
abbrev pub StopsAt : List ℕ → ParseStop → FilterRefused → Type 0
StopsAt text stops.Memory refused = refused ≡ refusals.Memory
StopsAt text (stops.Syntax left) refused = refused ≡ refusal_of text (Syntax left.now)
StopsAt text (stops.BadLiteral left) refused = refused ≡ refusal_of text (BadLiteral left.now)
StopsAt text (stops.Deep left) refused = refused ≡ refusal_of text (Deep left.now)
StopsAt text stops.TooMany refused = refused ≡ refusal_of text TooMany

-- ---- what a refusal says

-- at so many bytes of a text with these characters, with what stands before and behind
abbrev pub IsAtOffset : List ℕ → ℕ → (List ℕ → List ℕ → Type 0) → Type 0
IsAtOffset characters at Holds =
    (front : List ℕ) × (left : List ℕ) × (characters ≡ front ++ left) × (at ≡ length (encode_utf8_all front)) × Holds front left

-- the grammar goes no further there
abbrev pub StopsHere : List ℕ → List ℕ → Type 0
StopsHere front left = IsFront front × NoFurther front left

-- a `(` or a `not` is opened that is one too many
abbrev pub IsTooDeep : List ℕ → Type 0
IsTooDeep characters = (left : List ℕ) × (filter_at characters ≡ Err (Deep left))

-- the text is none of the grammar within its limits
abbrev pub IsNone : List ℕ → Type 0
IsNone characters = (tree : Tree) → SpellsWithin tree characters → ⊥

abbrev pub IsRefused : List ℕ → FilterRefused → Type 0
IsRefused characters refusals.Memory = Unit {0}
IsRefused characters (refusals.Syntax at) = IsAtOffset characters at StopsHere ⊎ (IsTooDeep characters × IsNone characters)
IsRefused characters (refusals.BadLiteral at) = IsAtOffset characters at (λ front left. IsDue front × NoLiteral left)
IsRefused characters refusals.TooManyComparisons = IsNone characters

-- the answer is this tree, if memory is found
abbrev pub IsTree : Tree → Result Tree FilterRefused → Type 0
IsTree tree (Ok found) = found ≡ tree
IsTree tree (Err refused) = refused ≡ refusals.Memory
