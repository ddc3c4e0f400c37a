-- How bytes are cut at the first line feed, and that a line's text says one thing.
use Rattle.std.proofs.Common.{◌≡◌, ◌≢◌, ℕ, ◌^◌, ◌<◌, ◌≤◌, List, [], ◌∷◌, ◌++◌, length, length-append, get_or, drop, ap, refl, sym, ◌∙◌, arith, decimal, codes}
use Rattle.std.specs.Str.Parse.{AllDigits}
use Rattle.std.proofs.lemmas.Fmt.{decimal_injective, decimal_is_IsNumeral, length-decimal-le}
use Rattle.std.proofs.lemmas.Str.Parse.{digit_from_value}
use Rattle.tab_drive.specs.Schedule.{line_feed}
use Rattle.tab_drive.specs.Lines.{IsLine, IsInRange, line_text}
use Rattle.tab_drive.specs.declared.lines.ScheduleLine.{ScheduleLine}
use Rattle.tab_drive.specs.declared.lines.ScheduleLine.TheVariants as lines
use Rattle.tab_drive.specs.declared.lines.TheConstants.{LONGEST_MESSAGE}
use Rattle.tab_drive.specs.declared.reading.TheConstants.{LONGEST_LINE}
use Rattle.tab_drive.proofs.OpenLines.{IsLine-append}

-- digits end no line
IsLine-from_digits : (ds : List ℕ) → AllDigits 10 ds → IsLine ds
IsLine-from_digits [] d = tt
IsLine-from_digits (c ∷ cs) d = (λ is. omega (arith, digit_from_value c d.0), IsLine-from_digits cs d.1)

IsLine-decimal : (n : ℕ) → n < 2 ^ 64 → IsLine (decimal n)
IsLine-decimal n small = IsLine-from_digits (decimal n) (decimal_is_IsNumeral n small).0.1

heads : (a b : ℕ) (xs ys : List ℕ) → a ∷ xs ≡ b ∷ ys → a ≡ b
heads a b xs ys is = ap (λ (l : List ℕ). get_or l 0 0) is

-- two lists with different first bytes are not one list
pub heads_differ : (a b : ℕ) (xs ys : List ℕ) → a ≢ b → a ∷ xs ≢ b ∷ ys
heads_differ a b xs ys differ is = differ (heads a b xs ys is)

joined : (a b : ℕ) (xs ys : List ℕ) → a ≡ b → xs ≡ ys → a ∷ xs ≡ b ∷ ys
joined a b xs ys first rest = cc

-- bytes are cut at their first line feed in one way
pub split_line : (a b x y : List ℕ) → IsLine a → IsLine b → a ++ line_feed ∷ x ≡ b ++ line_feed ∷ y → (a ≡ b) × (x ≡ y)
split_line [] [] x y a_line b_line is = (refl, ap (drop 1) is)
split_line [] (c ∷ b) x y a_line b_line is = absurd (b_line.0 (sym (heads _ _ _ _ is)))
split_line (c ∷ a) [] x y a_line b_line is = absurd (a_line.0 (heads _ _ _ _ is))
split_line (c ∷ a) (d ∷ b) x y a_line b_line is =
    let rest = split_line a b x y a_line.1 b_line.1 (ap (drop 1) is) in
    (joined c d a b (heads _ _ _ _ is) rest.0, rest.1)

-- and at a length in one way
pub split_length : (a b x y : List ℕ) → length a ≡ length b → a ++ x ≡ b ++ y → (a ≡ b) × (x ≡ y)
split_length [] [] x y sized is = (refl, is)
split_length [] (d ∷ b) x y sized is = absurd (omega arith)
split_length (c ∷ a) [] x y sized is = absurd (omega arith)
split_length (c ∷ a) (d ∷ b) x y sized is =
    let rest = split_length a b x y (omega arith) (ap (drop 1) is) in
    (joined c d a b (heads _ _ _ _ is) rest.0, rest.1)

-- the text of a line has no line feed
pub IsLine-line_text : (line : ScheduleLine) → IsInRange line → IsLine (line_text line)
IsLine-line_text lines.End range = (λ is. omega arith, (λ is. omega arith, (λ is. omega arith, tt)))
IsLine-line_text (lines.Now moment) range =
    IsLine-append (codes "now ") _ (λ is. omega arith, (λ is. omega arith, (λ is. omega arith, (λ is. omega arith, tt)))) (IsLine-decimal moment range)
IsLine-line_text (lines.Call size) range =
    IsLine-append (codes "call ") _ (λ is. omega arith, (λ is. omega arith, (λ is. omega arith, (λ is. omega arith, (λ is. omega arith, tt))))) (IsLine-decimal size (omega arith))

-- and is short
pub length-line_text : (line : ScheduleLine) → IsInRange line → length (line_text line) ≤ LONGEST_LINE
length-line_text lines.End range = omega arith
length-line_text (lines.Now moment) range = omega (arith, length-append (codes "now ") (decimal moment), length-decimal-le 20 moment (omega arith) (omega arith) range)
length-line_text (lines.Call size) range = omega (arith, length-append (codes "call ") (decimal size), length-decimal-le 20 size (omega arith) (omega arith) (omega arith))

-- one text says one thing
pub line_text_injective : (a b : ScheduleLine) → IsInRange a → IsInRange b → line_text a ≡ line_text b → a ≡ b
line_text_injective lines.End lines.End a_range b_range is = refl
line_text_injective lines.End (lines.Now moment) a_range b_range is = absurd (heads_differ 101 110 _ _ (λ no. omega arith) is)
line_text_injective lines.End (lines.Call size) a_range b_range is = absurd (heads_differ 101 99 _ _ (λ no. omega arith) is)
line_text_injective (lines.Now moment) lines.End a_range b_range is = absurd (heads_differ 110 101 _ _ (λ no. omega arith) is)
line_text_injective (lines.Now moment) (lines.Now other) a_range b_range is = ap lines.Now (decimal_injective moment other a_range b_range (ap (drop 4) is))
line_text_injective (lines.Now moment) (lines.Call size) a_range b_range is = absurd (heads_differ 110 99 _ _ (λ no. omega arith) is)
line_text_injective (lines.Call size) lines.End a_range b_range is = absurd (heads_differ 99 101 _ _ (λ no. omega arith) is)
line_text_injective (lines.Call size) (lines.Now moment) a_range b_range is = absurd (heads_differ 99 110 _ _ (λ no. omega arith) is)
line_text_injective (lines.Call size) (lines.Call other) a_range b_range is = ap lines.Call (decimal_injective size other (omega arith) (omega arith) (ap (drop 5) is))

-- a line that calls for a longer message than may be says nothing
pub call_too_long : (line digits : List ℕ) (size : ℕ) → line ≡ codes "call " ++ digits → digits ≡ decimal size → size < 2 ^ 64 → LONGEST_MESSAGE < size
    → (parsed : ScheduleLine) → IsInRange parsed → line ≢ line_text parsed
call_too_long line digits size parts spelled small long lines.End range is = heads_differ 99 101 _ _ (omega arith) (sym parts ∙ is)
call_too_long line digits size parts spelled small long (lines.Now moment) range is = heads_differ 99 110 _ _ (omega arith) (sym parts ∙ is)
call_too_long line digits size parts spelled small long (lines.Call other) range is =
    let same : decimal size ≡ decimal other = sym spelled ∙ ap (drop 5) (sym parts ∙ is) in
    omega (arith, decimal_injective size other small (omega arith) same)
