-- Texts in quotes, byte by byte.
use Rattle.std.proofs.Common.{◌≡◌, ℕ, List, [], ◌∷◌, ◌++◌, Bool, true, false, ◌==◌, cond, Option, Some, None, option_map, refl, sym, ap, ◌∙◌, append_assoc, append-nil, length, ◌<◌, arith}
use Rattle.tab_service.specs.Targets.{quoted, doubled_quote, first_inside, past_quote}

abbrev Found : Type 0
Found = Option (List ℕ × List ℕ)

abbrev with_first : ℕ → Found → Found
with_first b found = option_map (λ f. (b ∷ f.0, f.1)) found

-- a text with these bytes before it
abbrev pub behind_bytes : List ℕ → Found → Found
behind_bytes bytes found = option_map (λ f. (bytes ++ f.0, f.1)) found

one_more : (out : List ℕ) (b : ℕ) (found : Found) → behind_bytes out (with_first b found) ≡ behind_bytes (out ++ b ∷ []) found
one_more out b None = refl
one_more out b (Some f) = ap (λ (text : List ℕ). Some (text, f.1)) (sym (append_assoc out (b ∷ []) f.0))

abbrev byte_in : Option (ℕ × List ℕ) → ℕ
byte_in None = 0
byte_in (Some found) = found.0

abbrev rest_in : Option (ℕ × List ℕ) → List ℕ
rest_in None = []
rest_in (Some found) = found.1

none_is_some : (x : ℕ) (xs : List ℕ) → ◌≡◌ {A = Option (ℕ × List ℕ)} None (Some (x, xs)) → ⊥
none_is_some x xs h = cc

same_pair : (b c : ℕ) (xs ys : List ℕ) → ◌≡◌ {A = Option (ℕ × List ℕ)} (Some (b, xs)) (Some (c, ys)) → (b ≡ c) × (xs ≡ ys)
same_pair b c xs ys e = (ap byte_in e, ap rest_in e)

plain_by : (b : ℕ) (bytes : List ℕ) → (b == 39) ≡ false → quoted (b ∷ bytes) ≡ with_first b (quoted bytes)
unfolding quoted
plain_by b [] is = rw is refl
plain_by b (c ∷ bytes) is = rw is refl

doubled_by : (b c : ℕ) (bytes : List ℕ) → (b == 39) ≡ true → (c == 39) ≡ true → quoted (b ∷ c ∷ bytes) ≡ with_first 39 (quoted bytes)
unfolding quoted
doubled_by b c bytes first second = rw (first, second) refl

quoted_doubled : (b : ℕ) (rest : List ℕ) (byte : ℕ) (later : List ℕ) → (b == 39) ≡ true → doubled_quote rest ≡ Some (byte, later) → quoted (b ∷ rest) ≡ with_first byte (quoted later)
quoted_doubled b [] byte later first e = absurd (cc)
quoted_doubled b (c ∷ bytes) byte later first e = by_second (c == 39) refl
  where
    by_second : (test : Bool) → (c == 39) ≡ test → quoted (b ∷ c ∷ bytes) ≡ with_first byte (quoted later)
    by_second true second =
        let same = same_pair 39 byte bytes later (rw second at e) in
        doubled_by b c bytes first second ∙ ap (λ (n : ℕ). with_first n (quoted bytes)) same.0 ∙ ap (λ (l : List ℕ). with_first byte (quoted l)) same.1
    by_second false second = absurd (none_is_some byte later (rw second at e))

-- a text goes on with the byte that is next in it
quoted_more : (text : List ℕ) (byte : ℕ) (later : List ℕ) → first_inside text ≡ Some (byte, later) → quoted text ≡ with_first byte (quoted later)
unfolding first_inside
quoted_more [] byte later e = absurd (cc)
quoted_more (b ∷ rest) byte later e = by_first (b == 39) refl
  where
    by_first : (test : Bool) → (b == 39) ≡ test → quoted (b ∷ rest) ≡ with_first byte (quoted later)
    by_first true first = quoted_doubled b rest byte later first (rw first at e)
    by_first false first =
        let same = same_pair b byte rest later (rw first at e) in
        plain_by b rest first ∙ ap (λ (n : ℕ). with_first n (quoted rest)) same.0 ∙ ap (λ (l : List ℕ). with_first byte (quoted l)) same.1

-- one more byte is read of it
pub goes_on : (text rest out : List ℕ) (byte : ℕ) (later : List ℕ) → quoted text ≡ behind_bytes out (quoted rest) → first_inside rest ≡ Some (byte, later)
    → quoted text ≡ behind_bytes (out ++ byte ∷ []) (quoted later)
goes_on text rest out byte later is e = is ∙ ap (behind_bytes out) (quoted_more rest byte later e) ∙ one_more out byte (quoted later)

some_is_none : (x : ℕ) (xs : List ℕ) → ◌≡◌ {A = Option (ℕ × List ℕ)} (Some (x, xs)) None → ⊥
some_is_none x xs h = cc

ended_by : (b : ℕ) (rest : List ℕ) → (b == 39) ≡ true → doubled_quote rest ≡ None → quoted (b ∷ rest) ≡ Some ([], rest)
unfolding quoted
ended_by b [] first e = rw first refl
ended_by b (c ∷ bytes) first e = by_second (c == 39) refl
  where
    by_second : (test : Bool) → (c == 39) ≡ test → cond (b == 39) (cond (c == 39) (with_first 39 (quoted bytes)) (Some ([], c ∷ bytes))) (with_first b (quoted (c ∷ bytes))) ≡ Some ([], c ∷ bytes)
    by_second true second = absurd (some_is_none 39 bytes (rw second at e))
    by_second false second = rw (first, second) refl

-- the text ends where none is next
pub quoted_end : (text : List ℕ) → first_inside text ≡ None → quoted text ≡ option_map (λ rest. ([], rest)) (past_quote text)
unfolding first_inside past_quote quoted
quoted_end [] e = refl
quoted_end (b ∷ rest) e = by_first (b == 39) refl
  where
    by_first : (test : Bool) → (b == 39) ≡ test → quoted (b ∷ rest) ≡ option_map (λ behind. ([], behind)) (cond (b == 39) (Some rest) None)
    by_first true first = rw first (ended_by b rest first (rw first at e))
    by_first false first = absurd (some_is_none b rest (rw first at e))

-- the whole text is read where a quote is behind it
pub ended : (text rest out behind : List ℕ) → quoted text ≡ behind_bytes out (quoted rest) → first_inside rest ≡ None → past_quote rest ≡ Some behind
    → ◌≡◌ {A = Option (List ℕ × List ℕ)} (Some (out, behind)) (quoted text)
ended text rest out behind is none quote =
    sym (is ∙ ap (behind_bytes out) (quoted_end rest none) ∙ ap (λ (q : Option (List ℕ)). behind_bytes out (option_map (λ r. ([], r)) q)) quote ∙ ap (λ (t : List ℕ). Some (t, behind)) (append-nil out))

-- and there is none where none is
pub unended : (text rest out : List ℕ) → quoted text ≡ behind_bytes out (quoted rest) → first_inside rest ≡ None → past_quote rest ≡ None
    → ◌≡◌ {A = Option (List ℕ × List ℕ)} None (quoted text)
unended text rest out is none quote =
    sym (is ∙ ap (behind_bytes out) (quoted_end rest none) ∙ ap (λ (q : Option (List ℕ)). behind_bytes out (option_map (λ r. ([], r)) q)) quote)

doubled_shorter : (text : List ℕ) (byte : ℕ) (later : List ℕ) → doubled_quote text ≡ Some (byte, later) → length later < length text
doubled_shorter [] byte later e = absurd (none_is_some byte later e)
doubled_shorter (c ∷ bytes) byte later e = by_test (c == 39) refl
  where
    by_test : (test : Bool) → (c == 39) ≡ test → length later < length (c ∷ bytes)
    by_test true is = let same = same_pair 39 byte bytes later (rw is at e) in rw (← same.1) (omega arith)
    by_test false is = absurd (none_is_some byte later (rw is at e))

-- what is left grows shorter
pub shorter : (text : List ℕ) (byte : ℕ) (later : List ℕ) → first_inside text ≡ Some (byte, later) → length later < length text
unfolding first_inside
shorter [] byte later e = absurd (none_is_some byte later e)
shorter (b ∷ rest) byte later e = by_test (b == 39) refl
  where
    by_test : (test : Bool) → (b == 39) ≡ test → length later < length (b ∷ rest)
    by_test true is = omega (arith, doubled_shorter rest byte later (rw is at e))
    by_test false is = let same = same_pair b byte rest later (rw is at e) in rw (← same.1) (omega arith)
