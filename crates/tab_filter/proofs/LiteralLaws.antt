-- Literals are read where they stand.
use Rattle.std.proofs.Common.{◌≡◌, ℕ, ◌+◌, ◌-◌, ◌*◌, ◌≤◌, List, [], ◌∷◌, ◌++◌, Bool, true, false, cond, not, ◌&&◌, ◌||◌, ◌==◌, Option, Some, Ok, refl, ap, sym, subst, ◌∙◌, arith, append_assoc}
use Rattle.std.specs.Prelude.{codes, nat_lt, encode_utf8, encode_utf8_all, option_map}
use Rattle.std.specs.List.{list_all}
use Rattle.std.proofs.lemmas.Bool.{and_parts, and_from, le-leb, ltb-true, not-true, true≢false}
use Rattle.std.proofs.lemmas.Bool.Decides.{Decides-eqb}
use Rattle.std.proofs.lemmas.Option.{none-some}
use Rattle.uuid.specs.Text.{parsed}
use Rattle.tab_edm.specs.declared.values.Value.{Value}
use Rattle.tab_edm.specs.declared.values.Value.TheVariants.{Text, Flag, Moment, Guid, Bytes}
use Rattle.tab_filter.specs.Lexer.{Read, starts, front_of, behind, is_plain, is_unquoted}
use Rattle.tab_edm.specs.Moments.{moment_of}
use Rattle.tab_filter.specs.Literals.{with_front, inside_at, is_digit, fits_64, integer_of, goes_on, digits_value, starts_digit, some_digits, integer_value, plain_value, hex_pairs, guid_of, number_behind, number_of, prefixed_value, word_at, literal_at}
use Rattle.tab_filter.specs.Parser.{begins_literal}
use Rattle.tab_filter.specs.Grammar.{Literal, Quoted, Whole, Truth, Dated, Identified, Short, Long, doubled, sign, long_mark, literal_text, IsUnquoted, AreDigits, Means, IsLiteral, ends_token}
use Rattle.tab_filter.proofs.LiteralSteps.{inside_step}
use Rattle.tab_edm.proofs.MomentFunction.{moment_given}

-- ---- fronts
-- the text goes on with no character that passes the test
abbrev pub ends : (ℕ → Bool) → List ℕ → Bool
ends p [] = true
ends p (b ∷ bs) = not (p b)

pub front_complete : (p : ℕ → Bool) (w r : List ℕ) → list_all p w ≡ true → ends p r ≡ true → (front_of p (w ++ r) ≡ w) × (behind p (w ++ r) ≡ r)
unfolding front_of behind
front_complete p [] [] h e = (refl, refl)
front_complete p [] (b ∷ bs) h e = rw (not-true (p b) e) (refl, refl)
front_complete p (c ∷ cs) r h e =
    let parts = and_parts (p c) (list_all p cs) h in
    let rest = front_complete p cs r parts.1 e in
    rw parts.0 (ap (λ (l : List ℕ). c ∷ l) rest.0, rest.1)

pub list_all-append : (p : ℕ → Bool) (a b : List ℕ) → list_all p a ≡ true → list_all p b ≡ true → list_all p (a ++ b) ≡ true
list_all-append p [] b h k = k
list_all-append p (c ∷ cs) b h k =
    let parts = and_parts (p c) (list_all p cs) h in and_from _ _ parts.0 (list_all-append p cs b parts.1 k)

pub list_all-weaker : (p q : ℕ → Bool) (a : List ℕ) → ((c : ℕ) → p c ≡ true → q c ≡ true) → list_all p a ≡ true → list_all q a ≡ true
list_all-weaker p q [] w h = refl
list_all-weaker p q (c ∷ cs) w h =
    let parts = and_parts (p c) (list_all p cs) h in and_from _ _ (w c parts.0) (list_all-weaker p q cs w parts.1)

ends_plain : (r : List ℕ) → ends_token r ≡ true → ends is_plain r ≡ true
ends_plain [] e = refl
ends_plain (b ∷ bs) e = rw (or_more (b == 32 || b == 40 || b == 41) (b == 39) e) refl
  where
    or_more : (x y : Bool) → x ≡ true → (x || y) ≡ true
    or_more x y h = rw h refl

ends_unquoted : (r : List ℕ) → ends_token r ≡ true → starts 39 r ≡ false
ends_unquoted [] e = refl
ends_unquoted (b ∷ bs) e =
    elim (b == 39) as (λ v. (b == 39) ≡ v → v ≡ false) [
      | true ↦ λ q. absurd (true≢false (sym (ap (λ (n : ℕ). n == 32 || n == 40 || n == 41) (sym ((Decides-eqb b 39).0 q)) ∙ e)))
      | false ↦ λ q. refl
    ] refl

-- ---- digits
pub digit_other : (c k : ℕ) → is_digit c ≡ true → is_digit k ≡ false → (c == k) ≡ false
digit_other c k h none =
    elim (c == k) as (λ v. (c == k) ≡ v → v ≡ false) [
      | true ↦ λ e. absurd (true≢false (sym h ∙ ap is_digit ((Decides-eqb c k).0 e) ∙ none))
      | false ↦ λ e. refl
    ] refl

digit_plain : (c : ℕ) → is_digit c ≡ true → is_plain c ≡ true
digit_plain c h = rw (digit_other c 32 h refl, digit_other c 40 h refl, digit_other c 41 h refl, digit_other c 39 h refl) refl

number_grows : (n : ℕ) (ds : List ℕ) → n ≤ number_behind n ds
number_grows n [] = omega arith
number_grows n (c ∷ cs) = let h = number_grows (n * 10 + (c - 48)) cs in omega arith

abbrev pub greatest : ℕ
greatest = 9_223_372_036_854_775_808

fits_small : (minus : Bool) (n : ℕ) → fits_64 minus n ≡ true → n ≤ greatest
fits_small minus n h =
    elim (nat_lt n greatest) as (λ v. nat_lt n greatest ≡ v → (v || (minus && n == greatest)) ≡ true → n ≤ greatest) [
      | true ↦ λ e k. let low = ltb-true n greatest e in omega arith
      | false ↦ λ e k. let last = and_parts minus (n == greatest) k in let is = (Decides-eqb n greatest).0 last.1 in omega arith
    ] refl h

integer_small : (minus : Bool) (n : ℕ) (long : Bool) (value : Value) → integer_of minus n long ≡ Some value → n ≤ greatest
unfolding integer_of
integer_small minus n long value e =
    elim (fits_64 minus n) as (λ v. fits_64 minus n ≡ v → n ≤ greatest) [
      | true ↦ λ f. fits_small minus n f
      | false ↦ λ f. absurd (let g = rw f at e in none-some value g)
    ] refl

digits_complete : (minus : Bool) (n : ℕ) (ds : List ℕ) (long : Bool) → list_all is_digit ds ≡ true → number_behind n ds ≤ greatest → digits_value minus n (ds ++ long_mark long) ≡ integer_of minus (number_behind n ds) long
unfolding digits_value
digits_complete minus n [] true h small = refl
digits_complete minus n [] false h small = refl
digits_complete minus n (c ∷ cs) long h small =
    let parts = and_parts (is_digit c) (list_all is_digit cs) h in
    let grows = number_grows (n * 10 + (c - 48)) cs in
    let on : goes_on n c ≡ true = and_from _ _ parts.0 (le-leb (n * 10 + (c - 48)) greatest (omega arith)) in
    rw (digit_other c 76 parts.0 refl, on) (digits_complete minus (n * 10 + (c - 48)) cs long parts.1 small)

starts_digits : (ds mark : List ℕ) → AreDigits ds → (starts_digit (ds ++ mark) ≡ true) × (starts 45 (ds ++ mark) ≡ false)
starts_digits [] mark h = absurd h
starts_digits (c ∷ cs) mark h =
    let parts = and_parts (is_digit c) (list_all is_digit cs) h in (parts.0, digit_other c 45 parts.0 refl)

all_digits : (ds : List ℕ) → AreDigits ds → list_all is_digit ds ≡ true
all_digits [] h = absurd h
all_digits (c ∷ cs) h = h

some_complete : (minus : Bool) (ds : List ℕ) (long : Bool) (value : Value) → AreDigits ds → integer_of minus (number_of ds) long ≡ Some value → some_digits minus (ds ++ long_mark long) ≡ Some value
unfolding number_of
some_complete minus ds long value h e =
    rw (starts_digits ds (long_mark long) h).0 (digits_complete minus 0 ds long (all_digits ds h) (integer_small minus (number_behind 0 ds) long value e) ∙ e)

integer_complete : (minus : Bool) (ds : List ℕ) (long : Bool) (value : Value) → AreDigits ds → integer_of minus (number_of ds) long ≡ Some value → integer_value (sign minus ++ (ds ++ long_mark long)) ≡ Some value
unfolding integer_value
integer_complete true ds long value h e = some_complete true ds long value h e
integer_complete false ds long value h e = rw (starts_digits ds (long_mark long) h).1 (some_complete false ds long value h e)

-- a text that begins with a digit or with `-`
begins_number : (minus : Bool) (ds : List ℕ) (long : Bool) → AreDigits ds → (c : ℕ) × (cs : List ℕ) × (sign minus ++ (ds ++ long_mark long) ≡ c ∷ cs) × ((c == 45 || is_digit c) ≡ true)
begins_number true ds long h = (45, ds ++ long_mark long, refl, refl)
begins_number false [] long h = absurd h
begins_number false (c ∷ cs) long h =
    let parts = and_parts (is_digit c) (list_all is_digit cs) h in
    (c, cs ++ long_mark long, refl, rw (digit_other c 45 parts.0 refl, parts.0) refl)

number_other : (c k : ℕ) → (c == 45 || is_digit c) ≡ true → (k == 45 || is_digit k) ≡ false → (c == k) ≡ false
number_other c k h none =
    elim (c == k) as (λ v. (c == k) ≡ v → v ≡ false) [
      | true ↦ λ e. absurd (true≢false (sym h ∙ ap (λ (n : ℕ). n == 45 || is_digit n) ((Decides-eqb c k).0 e) ∙ none))
      | false ↦ λ e. refl
    ] refl

number_plain : (c : ℕ) (cs : List ℕ) → (c == 45 || is_digit c) ≡ true → plain_value (c ∷ cs) ≡ integer_value (c ∷ cs)
unfolding plain_value
number_plain c cs h = rw (number_other c 116 h refl, number_other c 102 h refl) refl

whole_plain : (minus : Bool) (ds : List ℕ) (long : Bool) → AreDigits ds → list_all is_plain (sign minus ++ (ds ++ long_mark long)) ≡ true
whole_plain minus ds long h =
    list_all-append is_plain (sign minus) (ds ++ long_mark long) (sign_plain minus)
    (list_all-append is_plain ds (long_mark long) (list_all-weaker is_digit is_plain ds digit_plain (all_digits ds h)) (mark_plain long))
  where
    sign_plain : (b : Bool) → list_all is_plain (sign b) ≡ true
    sign_plain true = refl
    sign_plain false = refl

    mark_plain : (b : Bool) → list_all is_plain (long_mark b) ≡ true
    mark_plain true = refl
    mark_plain false = refl

-- ---- tokens
abbrev done : Value → List ℕ → Read Value
done value left = Ok (value, left)

token_complete : (c : ℕ) (cs r : List ℕ) (value : Value) → list_all is_plain (c ∷ cs) ≡ true → ends_token r ≡ true → plain_value (c ∷ cs) ≡ Some value → literal_at ((c ∷ cs) ++ r) ≡ Ok (value, r)
unfolding literal_at
token_complete c cs r value plain e is =
    let f = front_complete is_plain (c ∷ cs) r plain (ends_plain r e) in
    rw (f.0, f.1, ends_unquoted r e, is) refl

-- ---- texts between quotes
pub doubled_append : (w x y : List ℕ) → doubled w x ++ y ≡ doubled w (x ++ y)
doubled_append [] x y = refl
doubled_append (c ∷ cs) x y =
    elim (c == 39) as (λ v. cond v (39 ∷ 39 ∷ doubled cs x) (c ∷ doubled cs x) ++ y ≡ cond v (39 ∷ 39 ∷ doubled cs (x ++ y)) (c ∷ doubled cs (x ++ y))) [
      | true ↦ ap (λ (l : List ℕ). 39 ∷ 39 ∷ l) (doubled_append cs x y)
      | false ↦ ap (λ (l : List ℕ). c ∷ l) (doubled_append cs x y)
    ]

pub inside_complete : (w r : List ℕ) → starts 39 r ≡ false → inside_at (doubled w (39 ∷ r)) ≡ Some (encode_utf8_all w, r)
inside_complete [] r h = rw (inside_step 39 r, h) refl
inside_complete (c ∷ cs) r h =
    elim (c == 39) as (λ v. (c == 39) ≡ v → inside_at (cond v (39 ∷ 39 ∷ doubled cs (39 ∷ r)) (c ∷ doubled cs (39 ∷ r))) ≡ Some (encode_utf8 c ++ encode_utf8_all cs, r)) [
      | true ↦ λ e. inside_step 39 (39 ∷ doubled cs (39 ∷ r)) ∙ ap (with_front (encode_utf8 39)) (inside_complete cs r h) ∙ ap (λ (n : ℕ). some_pair (encode_utf8 n ++ encode_utf8_all cs, r)) (sym ((Decides-eqb c 39).0 e))
      | false ↦ λ e. inside_step c (doubled cs (39 ∷ r)) ∙ rw e (ap (with_front (encode_utf8 c)) (inside_complete cs r h))
    ] refl
  where
    some_pair : List ℕ × List ℕ → Option (List ℕ × List ℕ)
    some_pair x = Some x

text_complete : (w r : List ℕ) → ends_token r ≡ true → literal_at ((39 ∷ doubled w (39 ∷ [])) ++ r) ≡ Ok (Text (encode_utf8_all w), r)
unfolding literal_at front_of behind
text_complete w r e = rw (doubled_append w (39 ∷ []) r, inside_complete w r (ends_unquoted r e)) refl

-- ---- words with quotes behind them
prefixed_complete : (c : ℕ) (cs inside r : List ℕ) (value : Value) → list_all is_plain (c ∷ cs) ≡ true → IsUnquoted inside → prefixed_value (c ∷ cs) inside ≡ Some value → literal_at (((c ∷ cs) ++ (39 ∷ inside ++ 39 ∷ [])) ++ r) ≡ Ok (value, r)
unfolding literal_at
prefixed_complete c cs inside r value plain unquoted is =
    let tail : List ℕ = 39 ∷ (inside ++ (39 ∷ r)) in
    let regroup : ((c ∷ cs) ++ (39 ∷ inside ++ 39 ∷ [])) ++ r ≡ (c ∷ cs) ++ tail = simp append_assoc refl in
    let f = front_complete is_plain (c ∷ cs) tail plain refl in
    let g = front_complete is_unquoted inside (39 ∷ r) unquoted refl in
    ap literal_of regroup ∙ rw (f.0, f.1, g.0, g.1, is) refl
  where
    literal_of : List ℕ → Read Value
    literal_of text = word_at text (front_of is_plain text) (behind is_plain text)

dated_value : (inside : List ℕ) (tick : ℕ) → moment_of (encode_utf8_all inside) ≡ Some tick → prefixed_value (codes "datetime") inside ≡ Some (Moment tick)
unfolding prefixed_value
dated_value inside tick e = ap (option_map Moment) e

identified_value : (inside guid : List ℕ) → parsed (encode_utf8_all inside) ≡ Some guid → prefixed_value (codes "guid") inside ≡ Some (Guid guid)
unfolding prefixed_value guid_of
identified_value inside guid e = ap (option_map Guid) e

short_value : (inside bytes : List ℕ) → hex_pairs inside ≡ Some bytes → prefixed_value (codes "X") inside ≡ Some (Bytes bytes)
unfolding prefixed_value
short_value inside bytes e = ap (option_map Bytes) e

long_value : (inside bytes : List ℕ) → hex_pairs inside ≡ Some bytes → prefixed_value (codes "binary") inside ≡ Some (Bytes bytes)
unfolding prefixed_value
long_value inside bytes e = ap (option_map Bytes) e

true_plain : plain_value (codes "true") ≡ Some (Flag true)
unfolding plain_value
true_plain = refl

false_plain : plain_value (codes "false") ≡ Some (Flag false)
unfolding plain_value
false_plain = refl

-- ---- all literals
whole_complete : (minus : Bool) (ds : List ℕ) (long : Bool) (value : Value) (r : List ℕ) → AreDigits ds → integer_of minus (number_of ds) long ≡ Some value → ends_token r ≡ true → literal_at ((sign minus ++ (ds ++ long_mark long)) ++ r) ≡ Ok (value, r)
whole_complete minus ds long value r h e ends =
    let b = begins_number minus ds long h in
    let plain = whole_plain minus ds long h in
    let is = integer_complete minus ds long value h e in
    ap (λ (l : List ℕ). literal_at (l ++ r)) b.2 ∙ token_complete b.0 b.1 r value (rw b.2 at plain) ends (number_plain b.0 b.1 b.3 ∙ (rw b.2 at is))

by_kind : (l : Literal) (value : Value) (r : List ℕ) → Means l value → ends_token r ≡ true → literal_at (literal_text l ++ r) ≡ Ok (value, r)
by_kind (Quoted w) value r m e = text_complete w r e ∙ ap (λ (v : Value). done v r) (sym m)
by_kind (Whole minus ds long) value r m e = whole_complete minus ds long value r m.0 m.1 e
by_kind (Truth true) value r m e = token_complete 116 (114 ∷ 117 ∷ 101 ∷ []) r (Flag true) refl e true_plain ∙ ap (λ (v : Value). done v r) (sym m)
by_kind (Truth false) value r m e = token_complete 102 (97 ∷ 108 ∷ 115 ∷ 101 ∷ []) r (Flag false) refl e false_plain ∙ ap (λ (v : Value). done v r) (sym m)
by_kind (Dated inside) value r m e =
    prefixed_complete 100 (97 ∷ 116 ∷ 101 ∷ 116 ∷ 105 ∷ 109 ∷ 101 ∷ []) inside r value refl m.0 (dated_value inside m.1 (moment_given (encode_utf8_all inside) m.1 m.2) ∙ ap Some (sym m.3))
by_kind (Identified inside) value r m e =
    prefixed_complete 103 (117 ∷ 105 ∷ 100 ∷ []) inside r value refl m.0 (identified_value inside m.1 m.2 ∙ ap Some (sym m.3))
by_kind (Short inside) value r m e =
    prefixed_complete 88 [] inside r value refl m.0 (short_value inside m.1 m.2 ∙ ap Some (sym m.3))
by_kind (Long inside) value r m e =
    prefixed_complete 98 (105 ∷ 110 ∷ 97 ∷ 114 ∷ 121 ∷ []) inside r value refl m.0 (long_value inside m.1 m.2 ∙ ap Some (sym m.3))

pub literal_complete : (value : Value) (s r : List ℕ) → IsLiteral value s → ends_token r ≡ true → literal_at (s ++ r) ≡ Ok (value, r)
literal_complete value s r l e = ap (λ (t : List ℕ). literal_at (t ++ r)) l.is ∙ by_kind l.literal value r l.means e

-- ---- how literals begin
record Begins (t : List ℕ) : Type 0 where
  no_space : starts 32 t ≡ false
  literal : begins_literal t ≡ true

number_begins : (c : ℕ) (cs : List ℕ) → (c == 45 || is_digit c) ≡ true → Begins (c ∷ cs)
unfolding begins_literal
number_begins c cs h = record {
  no_space = number_other c 32 h refl;
  literal = rw (number_other c 103 h refl, number_other c 101 h refl, number_other c 110 h refl, number_other c 108 h refl, number_other c 40 h refl, number_other c 41 h refl) refl;
}

kind_begins : (l : Literal) (value : Value) (r : List ℕ) → Means l value → Begins (literal_text l ++ r)
unfolding begins_literal
kind_begins (Quoted w) value r m = record { no_space = refl; literal = refl }
kind_begins (Whole minus ds long) value r m =
    let b = begins_number minus ds long m.0 in subst (λ (t : List ℕ). Begins (t ++ r)) (sym b.2) (number_begins b.0 (b.1 ++ r) b.3)
kind_begins (Truth true) value r m = record { no_space = refl; literal = refl }
kind_begins (Truth false) value r m = record { no_space = refl; literal = refl }
kind_begins (Dated inside) value r m = record { no_space = refl; literal = refl }
kind_begins (Identified inside) value r m = record { no_space = refl; literal = refl }
kind_begins (Short inside) value r m = record { no_space = refl; literal = refl }
kind_begins (Long inside) value r m = record { no_space = refl; literal = refl }

literal_start : (value : Value) (s r : List ℕ) → IsLiteral value s → Begins (s ++ r)
literal_start value s r l = subst (λ (t : List ℕ). Begins (t ++ r)) (sym l.is) (kind_begins l.literal value r l.means)

pub literal_no_space : (value : Value) (s r : List ℕ) → IsLiteral value s → starts 32 (s ++ r) ≡ false
literal_no_space value s r l = (literal_start value s r l).no_space

pub literal_begins : (value : Value) (s r : List ℕ) → IsLiteral value s → begins_literal (s ++ r) ≡ true
literal_begins value s r l = (literal_start value s r l).literal
