-- JSON texts stand on one line: a line feed in a string is written as an escape.
use Rattle.std.proofs.Common.{◌≡◌, ◌≢◌, ℕ, zero, suc, ◌+◌, ◌/◌, ◌%◌, ◌<◌, ◌==◌, not, pos, negsuc, List, [], ◌∷◌, ◌++◌, Bool, true, false, cond, nat_lt, decimal, refl, ap, ◌∙◌, arith}
use Rattle.std.specs.Char.{digit_char}
use Rattle.std.specs.Fmt.{digits, digits_onto, digit_glyph}
use Rattle.std.proofs.lemmas.Bool.{ne_eqb}
use Rattle.std.proofs.lemmas.Bool.Decides.{nat_tests}
use Rattle.std.proofs.lemmas.List.Folds.{list_all-append}
use Rattle.json.specs.Print.{escape_letter, escape_byte, escape, quoted}
use Rattle.serde_json.specs.Data.{Num, unsigned, negative, float, Data, null, boolean, number, string, array, object, Items, no_items, item, Members, no_members, member}
use Rattle.serde_json.specs.Written.{number_text, comma_if, compact_text, items_text, members_text}
use Rattle.tab_json.specs.Lines.{no_feed, IsOneLine}

pub both_lines : (xs ys : List ℕ) → IsOneLine xs → IsOneLine ys → IsOneLine (xs ++ ys)
both_lines xs ys p q = list_all-append no_feed xs ys ∙ rw (p, q) refl

pub byte_line : (b : ℕ) → b ≢ 10 → no_feed b ≡ true
byte_line b other = ap not (ne_eqb b 10 other)

pub behind_byte : (b : ℕ) (xs : List ℕ) → b ≢ 10 → IsOneLine xs → IsOneLine (b ∷ xs)
behind_byte b xs other is = rw (byte_line b other) is

-- ---- numbers

glyph_line : (n : ℕ) → digit_glyph false (n % 10) ≢ 10
glyph_line n e =
    let low : nat_lt (n % 10) 10 ≡ true = grind (arith, nat_tests) in
    let at : 48 + n % 10 ≡ 10 = rw low at e in
    omega (arith, at)

digits_line : (k n : ℕ) (acc : List ℕ) → IsOneLine acc → IsOneLine (digits_onto k 10 false n acc)
digits_line zero n acc is = is
digits_line (suc k) n acc is =
    let more = behind_byte (digit_glyph false (n % 10)) acc (glyph_line n) is in
    by_test (n / 10 == 0) more (digits_line k (n / 10) (digit_glyph false (n % 10) ∷ acc) more)
  where
    by_test : (test : Bool) → IsOneLine (digit_glyph false (n % 10) ∷ acc) → IsOneLine (digits_onto k 10 false (n / 10) (digit_glyph false (n % 10) ∷ acc))
        → IsOneLine (cond test (digit_glyph false (n % 10) ∷ acc) (digits_onto k 10 false (n / 10) (digit_glyph false (n % 10) ∷ acc)))
    by_test true here later = here
    by_test false here later = later

pub decimal_line : (n : ℕ) → IsOneLine (decimal n)
unfolding digits
decimal_line n = digits_line 64 n [] refl

number_line : (n : Num) → IsOneLine (number_text n)
number_line (unsigned n) = decimal_line n
number_line (negative (pos n)) = decimal_line n
number_line (negative (negsuc n)) = behind_byte 45 (decimal (suc n)) (λ e. omega (arith, e)) (decimal_line (suc n))
number_line (float x) = refl

-- ---- strings

letter_line : (x : ℕ) → escape_letter x ≢ 10
letter_line x e = grind (arith, nat_tests)

short_line : (d : ℕ) → d < 16 → digit_char d ≢ 10
short_line d low e = grind (arith, nat_tests)

escaped_line : (x : ℕ) → IsOneLine (escape_byte x)
unfolding escape_byte
escaped_line x = by_tests (nat_lt 0 (escape_letter x)) (nat_lt x 32) refl refl
  where
    by_tests : (has_letter control : Bool) → nat_lt 0 (escape_letter x) ≡ has_letter → nat_lt x 32 ≡ control
        → IsOneLine (cond has_letter (92 ∷ escape_letter x ∷ []) (cond control (92 ∷ 117 ∷ 48 ∷ 48 ∷ digit_char (x / 16) ∷ digit_char (x % 16) ∷ []) (x ∷ [])))
    by_tests true control p q = behind_byte (escape_letter x) [] (letter_line x) refl
    by_tests false true p q =
        let low : x < 32 = grind (arith, nat_tests) in
        behind_byte (digit_char (x / 16)) (digit_char (x % 16) ∷ []) (short_line (x / 16) (omega (arith, low)))
        (behind_byte (digit_char (x % 16)) [] (short_line (x % 16) (omega arith)) refl)
    by_tests false false p q = behind_byte x [] (λ e. grind (arith, nat_tests)) refl

escape_line : (s : List ℕ) → IsOneLine (escape s)
escape_line [] = refl
escape_line (x ∷ s) = both_lines (escape_byte x) (escape s) (escaped_line x) (escape_line s)

quoted_line : (s : List ℕ) → IsOneLine (quoted s)
quoted_line s = both_lines (escape s) (34 ∷ []) (escape_line s) refl

-- ---- values

comma_line : (later : Bool) → IsOneLine (comma_if later)
comma_line true = refl
comma_line false = refl

mutual
  pub value_line : (d : Data) → IsOneLine (compact_text d)
  value_line null = refl
  value_line (boolean true) = refl
  value_line (boolean false) = refl
  value_line (number n) = number_line n
  value_line (string s) = quoted_line s
  value_line (array ds) = items_line false ds
  value_line (object ms) = members_line false ms

  items_line : (later : Bool) (ds : Items) → IsOneLine (items_text later ds)
  items_line later no_items = refl
  items_line later (item d ds) = both_lines (comma_if later) (compact_text d ++ items_text true ds) (comma_line later) (both_lines (compact_text d) (items_text true ds) (value_line d) (items_line true ds))

  members_line : (later : Bool) (ms : Members) → IsOneLine (members_text later ms)
  members_line later no_members = refl
  members_line later (member k d ms) =
      both_lines (comma_if later) (quoted k ++ 58 ∷ (compact_text d ++ members_text true ms)) (comma_line later)
      (both_lines (quoted k) (58 ∷ (compact_text d ++ members_text true ms)) (quoted_line k)
      (both_lines (compact_text d) (members_text true ms) (value_line d) (members_line true ms)))
