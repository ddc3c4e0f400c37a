-- What the reading of literals says of the text that it read.
use Rattle.std.proofs.Common.{◌≡◌, ℕ, ◌+◌, ◌-◌, ◌*◌, List, [], ◌∷◌, ◌++◌, Bool, true, false, cond, ◌||◌, ◌==◌, Option, Some, None, Ok, Err, refl, ap, sym, subst, ◌∙◌, append_assoc, append-nil, pos}
use Rattle.std.specs.Prelude.{codes, bytes_eq, encode_utf8, encode_utf8_all, option_map}
use Rattle.std.specs.List.{list_all}
use Rattle.std.proofs.lemmas.Bool.{and_from, and_parts, true≢false}
use Rattle.std.proofs.lemmas.Bool.Decides.{Decides-eqb}
use Rattle.std.proofs.lemmas.Option.{none-some, same_Some}
use Rattle.std.proofs.lemmas.Slice.Eq.{bytes_eq-Decides}
use Rattle.uuid.specs.Text.{parsed}
use Rattle.tab_edm.specs.declared.values.Value.{Value}
use Rattle.tab_edm.specs.declared.values.Value.TheVariants.{Text, Flag, Int32, Moment, Guid, Bytes}
use Rattle.tab_filter.specs.Lexer.{Read, ParseFault, BadLiteral, starts, past_first, front_of, behind, is_plain, is_unquoted}
use Rattle.tab_edm.specs.Moments.{moment_of}
use Rattle.tab_filter.specs.Literals.{with_front, inside_at, is_digit, integer_of, long_at_end, goes_on, digits_value, starts_digit, some_digits, integer_value, plain_value, hex_pairs, guid_of, number_behind, number_of, prefixed_value, given, quoted, token_at, closed_at, quote_at, word_at, literal_at}
use Rattle.tab_filter.specs.Grammar.{Quoted, Whole, Truth, Dated, Identified, Short, Long, doubled, sign, long_mark, IsUnquoted, AreDigits, IsLiteral}
use Rattle.tab_filter.proofs.Splits.{split_behind}
use Rattle.tab_edm.proofs.MomentFunction.{moment_found}
use Rattle.tab_filter.proofs.LiteralLaws.{literal_complete, doubled_append}
use Rattle.tab_filter.proofs.Sound.{Meaning, Sound, starts_is}

abbrev pub Literally : Meaning Value
Literally k value s = IsLiteral value s

-- a literal for what is not read yet
pub some_literal : IsLiteral (Int32 (pos 0)) (codes "0")
unfolding integer_of number_of
some_literal = record { literal = Whole false (48 ∷ []) false; means = (refl, refl); is = refl }

-- ---- fronts
front_all : (p : ℕ → Bool) (t : List ℕ) → list_all p (front_of p t) ≡ true
unfolding front_of
front_all p [] = refl
front_all p (b ∷ bs) =
    elim (p b) as (λ v. p b ≡ v → list_all p (cond v (b ∷ front_of p bs) []) ≡ true) [
      | true ↦ λ h. and_from _ _ h (front_all p bs)
      | false ↦ λ h. refl
    ] refl

-- ---- numbers
record Digits (minus : Bool) (n : ℕ) (text : List ℕ) (value : Value) : Type 0 where
  digits : List ℕ
  long : Bool
  all : list_all is_digit digits ≡ true
  means : integer_of minus (number_behind n digits) long ≡ Some value
  is : text ≡ digits ++ long_mark long

long_found : (minus : Bool) (n c : ℕ) (cs : List ℕ) (value : Value) → (c == 76) ≡ true → long_at_end minus n cs ≡ Some value → Digits minus n (c ∷ cs) value
long_found minus n c [] value l e =
    record { digits = []; long = true; all = refl; means = e; is = ap (λ (k : ℕ). k ∷ []) ((Decides-eqb c 76).0 l) }
long_found minus n c (d ∷ ds) value l e = absurd (none-some value e)

digits_found : (minus : Bool) (n : ℕ) (text : List ℕ) (value : Value) → digits_value minus n text ≡ Some value → Digits minus n text value
unfolding digits_value
digits_found minus n [] value e = record { digits = []; long = false; all = refl; means = e; is = refl }
digits_found minus n (c ∷ cs) value e =
    elim (c == 76) as (λ v. (c == 76) ≡ v → cond v (long_at_end minus n cs) (cond (goes_on n c) (digits_value minus (n * 10 + (c - 48)) cs) None) ≡ Some value → Digits minus n (c ∷ cs) value) [
      | true ↦ λ l e. long_found minus n c cs value l e
      | false ↦ λ l e. elim (goes_on n c) as (λ v. goes_on n c ≡ v → cond v (digits_value minus (n * 10 + (c - 48)) cs) None ≡ Some value → Digits minus n (c ∷ cs) value) [
        | true ↦ λ g e. let rest = digits_found minus (n * 10 + (c - 48)) cs value e in
            record { digits = c ∷ rest.digits; long = rest.long; all = and_from _ _ (and_parts (is_digit c) _ g).0 rest.all; means = rest.means; is = ap (λ (l : List ℕ). c ∷ l) rest.is }
        | false ↦ λ g e. absurd (none-some value e)
      ] refl e
    ] refl e

-- one digit at least, where the text begins with one
are_digits : (text ds mark : List ℕ) → text ≡ ds ++ mark → starts_digit text ≡ true → starts_digit mark ≡ false → list_all is_digit ds ≡ true → AreDigits ds
are_digits text [] mark is h none all = true≢false (sym h ∙ ap starts_digit is ∙ none)
are_digits text (c ∷ cs) mark is h none all = all

mark_no_digit : (long : Bool) → starts_digit (long_mark long) ≡ false
mark_no_digit true = refl
mark_no_digit false = refl

some_found : (minus : Bool) (text : List ℕ) (value : Value) → some_digits minus text ≡ Some value → IsLiteral value (sign minus ++ text)
unfolding number_of
some_found minus text value e =
    elim (starts_digit text) as (λ v. starts_digit text ≡ v → cond v (digits_value minus 0 text) None ≡ Some value → IsLiteral value (sign minus ++ text)) [
      | true ↦ λ h e. let d = digits_found minus 0 text value e in
          record { literal = Whole minus d.digits d.long; means = (are_digits text d.digits (long_mark d.long) d.is h (mark_no_digit d.long) d.all, d.means); is = ap (λ (l : List ℕ). sign minus ++ l) d.is }
      | false ↦ λ h e. absurd (none-some value e)
    ] refl e

integer_found : (text : List ℕ) (value : Value) → integer_value text ≡ Some value → IsLiteral value text
unfolding integer_value
integer_found text value e =
    elim (starts 45 text) as (λ v. starts 45 text ≡ v → cond v (some_digits true (past_first text)) (some_digits false text) ≡ Some value → IsLiteral value text) [
      | true ↦ λ h e. subst (IsLiteral value) (sym (starts_is 45 text h)) (some_found true (past_first text) value e)
      | false ↦ λ h e. some_found false text value e
    ] refl e

plain_found : (word : List ℕ) (value : Value) → plain_value word ≡ Some value → IsLiteral value word
unfolding plain_value
plain_found word value e =
    elim (bytes_eq word (codes "true")) as (λ v. bytes_eq word (codes "true") ≡ v → cond v (Some (Flag true)) (cond (bytes_eq word (codes "false")) (Some (Flag false)) (integer_value word)) ≡ Some value → IsLiteral value word) [
      | true ↦ λ h e. record { literal = Truth true; means = sym (same_Some _ _ e); is = (bytes_eq-Decides word (codes "true")).0 h }
      | false ↦ λ h e. elim (bytes_eq word (codes "false")) as (λ v. bytes_eq word (codes "false") ≡ v → cond v (Some (Flag false)) (integer_value word) ≡ Some value → IsLiteral value word) [
        | true ↦ λ h e. record { literal = Truth false; means = sym (same_Some _ _ e); is = (bytes_eq-Decides word (codes "false")).0 h }
        | false ↦ λ h e. integer_found word value e
      ] refl e
    ] refl e

-- ---- texts between quotes
abbrev pub no_pair : Option (List ℕ × List ℕ)
no_pair = None

abbrev pub some_pair : List ℕ × List ℕ → Option (List ℕ × List ℕ)
some_pair x = Some x

pub record Inside (text bytes left : List ℕ) : Type 0 where
  pub inside : List ℕ
  pub bytes_are : bytes ≡ encode_utf8_all inside
  pub is : text ≡ doubled inside (39 ∷ left)

pub front_some : (front : List ℕ) (o : Option (List ℕ × List ℕ)) (bytes left : List ℕ) → with_front front o ≡ Some (bytes, left) → (more : List ℕ) × (o ≡ Some (more, left)) × (bytes ≡ front ++ more)
front_some front None bytes left e = absurd (none_is e)
  where
    none_is : no_pair ≡ some_pair (bytes, left) → ⊥
    none_is e = cc
front_some front (Some x) bytes left e =
    let s = pair_same e in (x.0, ap (λ (l : List ℕ). Some (x.0, l)) (ap (λ (p : List ℕ × List ℕ). p.1) s), sym (ap (λ (p : List ℕ × List ℕ). p.0) s))
  where
    pair_same : {x y : List ℕ × List ℕ} → Some x ≡ Some y → x ≡ y
    pair_same e = cc

pub pair_same : {x y : List ℕ × List ℕ} → Some x ≡ Some y → x ≡ y
pair_same e = cc

pub none_pair : {x : List ℕ × List ℕ} → None ≡ Some x → ⊥
none_pair e = cc

inside_char : (b : ℕ) (bs text bytes left : List ℕ) → (b == 39) ≡ false → text ≡ b ∷ bs → ((more : List ℕ) → inside_at bs ≡ Some (more, left) → Inside bs more left) → with_front (encode_utf8 b) (inside_at bs) ≡ Some (bytes, left) → Inside text bytes left
inside_char b bs text bytes left other is next e =
    let f = front_some (encode_utf8 b) (inside_at bs) bytes left e in
    let i = next f.0 f.1 in
    record {
      inside = b ∷ i.inside;
      bytes_are = f.2 ∙ ap (λ (l : List ℕ). encode_utf8 b ++ l) i.bytes_are;
      is = is ∙ ap (λ (l : List ℕ). b ∷ l) i.is ∙ sym (rw other refl);
    }

inside_quote : (b c : ℕ) (cs bytes left : List ℕ) → b ≡ 39 → c ≡ 39 → ((more : List ℕ) → inside_at cs ≡ Some (more, left) → Inside cs more left) → with_front (encode_utf8 39) (inside_at cs) ≡ Some (bytes, left) → Inside (b ∷ c ∷ cs) bytes left
inside_quote b c cs bytes left first second next e =
    let f = front_some (encode_utf8 39) (inside_at cs) bytes left e in
    let i = next f.0 f.1 in
    record {
      inside = 39 ∷ i.inside;
      bytes_are = f.2 ∙ ap (λ (l : List ℕ). encode_utf8 39 ++ l) i.bytes_are;
      is = ap (λ (n : ℕ). n ∷ c ∷ cs) first ∙ ap (λ (n : ℕ). 39 ∷ n ∷ cs) second ∙ ap (λ (l : List ℕ). 39 ∷ 39 ∷ l) i.is;
    }

inside_end : (b : ℕ) (bs bytes left : List ℕ) → b ≡ 39 → some_pair ([], bs) ≡ some_pair (bytes, left) → Inside (b ∷ bs) bytes left
inside_end b bs bytes left quote e =
    let s = pair_same e in
    record {
      inside = [];
      bytes_are = sym (ap (λ (p : List ℕ × List ℕ). p.0) s);
      is = ap (λ (n : ℕ). n ∷ bs) quote ∙ ap (λ (l : List ℕ). 39 ∷ l) (ap (λ (p : List ℕ × List ℕ). p.1) s);
    }

pub inside_found : (text bytes left : List ℕ) → inside_at text ≡ Some (bytes, left) → Inside text bytes left
unfolding inside_at
inside_found [] bytes left e = absurd (none_pair e)
inside_found (b ∷ []) bytes left e =
    elim (b == 39) as (λ v. (b == 39) ≡ v → cond v (some_pair ([], [])) no_pair ≡ some_pair (bytes, left) → Inside (b ∷ []) bytes left) [
      | true ↦ λ h e. inside_end b [] bytes left ((Decides-eqb b 39).0 h) e
      | false ↦ λ h e. absurd (none_pair e)
    ] refl e
inside_found (b ∷ c ∷ cs) bytes left e =
    elim (b == 39) as (λ v. (b == 39) ≡ v → cond v (cond (c == 39) (with_front (encode_utf8 39) (inside_at cs)) (some_pair ([], c ∷ cs))) (with_front (encode_utf8 b) (inside_at (c ∷ cs))) ≡ some_pair (bytes, left) → Inside (b ∷ c ∷ cs) bytes left) [
      | true ↦ λ h e. elim (c == 39) as (λ v. (c == 39) ≡ v → cond v (with_front (encode_utf8 39) (inside_at cs)) (some_pair ([], c ∷ cs)) ≡ some_pair (bytes, left) → Inside (b ∷ c ∷ cs) bytes left) [
        | true ↦ λ i e. inside_quote b c cs bytes left ((Decides-eqb b 39).0 h) ((Decides-eqb c 39).0 i) (λ more f. inside_found cs more left f) e
        | false ↦ λ i e. inside_end b (c ∷ cs) bytes left ((Decides-eqb b 39).0 h) e
      ] refl e
      | false ↦ λ h e. inside_char b (c ∷ cs) (b ∷ c ∷ cs) bytes left h refl (λ more f. inside_found (c ∷ cs) more left f) e
    ] refl e

-- ---- words with quotes behind them
map_some : {A : Type 0} (f : A → Value) (o : Option A) (value : Value) → option_map f o ≡ Some value → (x : A) × (o ≡ Some x) × (value ≡ f x)
map_some f None value e = absurd (none-some value e)
map_some f (Some x) value e = (x, refl, sym (same_Some _ _ e))

prefixed_found : (word inside : List ℕ) (value : Value) → IsUnquoted inside → prefixed_value word inside ≡ Some value → IsLiteral value (word ++ (39 ∷ inside ++ 39 ∷ []))
unfolding prefixed_value guid_of
prefixed_found word inside value unquoted e =
    elim (bytes_eq word (codes "datetime")) as (λ v. bytes_eq word (codes "datetime") ≡ v → cond v (option_map Moment (moment_of (encode_utf8_all inside))) others ≡ Some value → IsLiteral value (word ++ tail)) [
      | true ↦ λ h e. let m = map_some Moment (moment_of (encode_utf8_all inside)) value e in
          record { literal = Dated inside; means = (unquoted, m.0, moment_found (encode_utf8_all inside) m.0 m.1, m.2); is = ap (λ (l : List ℕ). l ++ tail) ((bytes_eq-Decides word (codes "datetime")).0 h) }
      | false ↦ λ _ e. elim (bytes_eq word (codes "guid")) as (λ v. bytes_eq word (codes "guid") ≡ v → cond v (option_map Guid (parsed (encode_utf8_all inside))) hexadecimal ≡ Some value → IsLiteral value (word ++ tail)) [
        | true ↦ λ h e. let m = map_some Guid (parsed (encode_utf8_all inside)) value e in
            record { literal = Identified inside; means = (unquoted, m.0, m.1, m.2); is = ap (λ (l : List ℕ). l ++ tail) ((bytes_eq-Decides word (codes "guid")).0 h) }
        | false ↦ λ _ e. elim (bytes_eq word (codes "X")) as (λ v. bytes_eq word (codes "X") ≡ v → cond (v || bytes_eq word (codes "binary")) (option_map Bytes (hex_pairs inside)) None ≡ Some value → IsLiteral value (word ++ tail)) [
          | true ↦ λ h e. let m = map_some Bytes (hex_pairs inside) value e in
              record { literal = Short inside; means = (unquoted, m.0, m.1, m.2); is = ap (λ (l : List ℕ). l ++ tail) ((bytes_eq-Decides word (codes "X")).0 h) }
          | false ↦ λ _ e. elim (bytes_eq word (codes "binary")) as (λ v. bytes_eq word (codes "binary") ≡ v → cond v (option_map Bytes (hex_pairs inside)) None ≡ Some value → IsLiteral value (word ++ tail)) [
            | true ↦ λ h e. let m = map_some Bytes (hex_pairs inside) value e in
                record { literal = Long inside; means = (unquoted, m.0, m.1, m.2); is = ap (λ (l : List ℕ). l ++ tail) ((bytes_eq-Decides word (codes "binary")).0 h) }
            | false ↦ λ _ e. absurd (none-some value e)
          ] refl e
        ] refl e
      ] refl e
    ] refl e
  where
    tail : List ℕ
    tail = 39 ∷ inside ++ 39 ∷ []

    hexadecimal : Option Value
    hexadecimal = cond (bytes_eq word (codes "X") || bytes_eq word (codes "binary")) (option_map Bytes (hex_pairs inside)) None

    others : Option Value
    others = cond (bytes_eq word (codes "guid")) (option_map Guid (parsed (encode_utf8_all inside))) hexadecimal

-- ---- tokens
abbrev erring : ParseFault → Read Value
erring fault = Err fault

abbrev given_value : Value × List ℕ → Read Value
given_value x = Ok x

err_is_ok : (fault : ParseFault) (x : Value × List ℕ) → erring fault ≡ given_value x → ⊥
err_is_ok fault x e = cc

-- a token that is no literal
bad_here : (t : List ℕ) → literal_at t ≡ erring (BadLiteral t) → starts 40 t ≡ false → Sound Literally t (Err (BadLiteral t))
bad_here t e closed = (
  [],
  λ w value l. ([], value, subst (IsLiteral value) (sym (append-nil w)) l),
  refl,
  record {
    none = λ value s r l ends is. err_is_ok (BadLiteral t) (value, r) (sym e ∙ ap literal_at is ∙ literal_complete value s r l ends);
    closed = closed;
  },
)

given_sound : (t s left : List ℕ) (o : Option Value) → t ≡ s ++ left → ((value : Value) → o ≡ Some value → IsLiteral value s) → (o ≡ None → Sound Literally t (Err (BadLiteral t))) → Sound Literally t (given t o left)
given_sound t s left None is good bad = bad refl
given_sound t s left (Some value) is good bad = (s, good value refl, is)

-- the tests of a token, apart from what they are made of
record Token (t w u : List ℕ) : Type 0 where
  split : t ≡ w ++ u
  reads : literal_at t ≡ word_at t w u
  plain : list_all is_plain w ≡ true

token_of : (t : List ℕ) → Token t (front_of is_plain t) (behind is_plain t)
unfolding literal_at
token_of t = record { split = split_behind is_plain t; reads = refl; plain = front_all is_plain t }

no_opening : (c : ℕ) (cs u t : List ℕ) → t ≡ (c ∷ cs) ++ u → list_all is_plain (c ∷ cs) ≡ true → starts 40 t ≡ false
no_opening c cs u t is plain =
    ap (starts 40) is ∙ elim (c == 40) as (λ v. (c == 40) ≡ v → v ≡ false) [
      | true ↦ λ e. absurd (true≢false (sym (and_parts (is_plain c) _ plain).0 ∙ ap is_plain ((Decides-eqb c 40).0 e)))
      | false ↦ λ e. refl
    ] refl

quoted_sound : (t u : List ℕ) (o : Option (List ℕ × List ℕ)) → inside_at u ≡ o → t ≡ 39 ∷ u → literal_at t ≡ quoted t o → Sound Literally t (quoted t o)
quoted_sound t u None e is reads = bad_here t reads (ap (starts 40) is)
quoted_sound t u (Some x) e is reads =
    let i = inside_found u x.0 x.1 e in
    (39 ∷ doubled i.inside (39 ∷ []), record { literal = Quoted i.inside; means = ap Text i.bytes_are; is = refl }, is ∙ ap (λ (l : List ℕ). 39 ∷ l) (i.is ∙ sym (doubled_append i.inside (39 ∷ []) x.1)))

closed_sound : (t : List ℕ) (c : ℕ) (cs inside u : List ℕ) → t ≡ (c ∷ cs) ++ (39 ∷ (inside ++ u)) → list_all is_plain (c ∷ cs) ≡ true → IsUnquoted inside → literal_at t ≡ closed_at t (c ∷ cs) inside u → Sound Literally t (closed_at t (c ∷ cs) inside u)
closed_sound t c cs inside u is plain unquoted reads =
    let closed = no_opening c cs (39 ∷ (inside ++ u)) t is plain in
    elim (starts 39 u) as (λ v. starts 39 u ≡ v → literal_at t ≡ ended v → Sound Literally t (ended v)) [
      | true ↦ λ h reads. given_sound t ((c ∷ cs) ++ (39 ∷ inside ++ 39 ∷ [])) (past_first u) (prefixed_value (c ∷ cs) inside) (is ∙ ap (λ (l : List ℕ). (c ∷ cs) ++ (39 ∷ (inside ++ l))) (starts_is 39 u h) ∙ simp append_assoc refl)
          (λ value e. prefixed_found (c ∷ cs) inside value unquoted e) (λ none. bad_here t (reads ∙ ap (λ (o : Option Value). given t o (past_first u)) none) closed)
      | false ↦ λ h reads. bad_here t reads closed
    ] refl reads
  where
    ended : Bool → Read Value
    ended b = cond b (given t (prefixed_value (c ∷ cs) inside) (past_first u)) (Err (BadLiteral t))

word_sound : (t w u : List ℕ) → Token t w u → Sound Literally t (word_at t w u)
word_sound t w u k =
    elim (starts 39 u) as (λ v. starts 39 u ≡ v → literal_at t ≡ cond v (quote_at t w (past_first u)) (token_at t w u) → Sound Literally t (cond v (quote_at t w (past_first u)) (token_at t w u))) [
      | true ↦ λ h reads. by_quote w k.split k.plain h reads
      | false ↦ λ h reads. by_end w k.split k.plain reads
    ] refl k.reads
  where
    by_quote : (w : List ℕ) → t ≡ w ++ u → list_all is_plain w ≡ true → starts 39 u ≡ true → literal_at t ≡ quote_at t w (past_first u) → Sound Literally t (quote_at t w (past_first u))
    by_quote [] split plain h reads = quoted_sound t (past_first u) (inside_at (past_first u)) refl (split ∙ starts_is 39 u h) reads
    by_quote (c ∷ cs) split plain h reads =
        closed_sound t c cs (front_of is_unquoted (past_first u)) (behind is_unquoted (past_first u)) (split ∙ ap (λ (l : List ℕ). (c ∷ cs) ++ l) (starts_is 39 u h ∙ ap (λ (l : List ℕ). 39 ∷ l) (split_behind is_unquoted (past_first u)))) plain (front_all is_unquoted (past_first u)) reads

    by_end : (w : List ℕ) → t ≡ w ++ u → list_all is_plain w ≡ true → literal_at t ≡ token_at t w u → Sound Literally t (token_at t w u)
    by_end [] split plain reads = ([], codes "0", Int32 (pos 0), some_literal, split)
    by_end (c ∷ cs) split plain reads =
        given_sound t (c ∷ cs) u (plain_value (c ∷ cs)) split (λ value e. plain_found (c ∷ cs) value e) (λ none. bad_here t (reads ∙ ap (λ (o : Option Value). given t o u) none) (no_opening c cs u t split plain))

pub literal_sound : (t : List ℕ) → Sound Literally t (literal_at t)
literal_sound t =
    let k = token_of t in subst (Sound Literally t) (sym k.reads) (word_sound t (front_of is_plain t) (behind is_plain t) k)
