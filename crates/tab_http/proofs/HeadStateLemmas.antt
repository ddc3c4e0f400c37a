-- A head ends just where its first empty line behind another line ends.
use Rattle.std.proofs.Common.{◌≡◌, ◌≢◌, ℕ, ◌+◌, ◌<◌, ◌≤◌, Bool, true, false, List, [], ◌∷◌, ◌++◌, length, take, drop, refl, sym, ap, ◌∙◌, arith, append_assoc, length-append, take-append-drop, flat_map, cond, ⊎_elim}
use Rattle.std.specs.Prelude.{All, fold, ◌||◌, ◌==◌}
use Rattle.std.proofs.lemmas.Bool.{ne_eqb, cases_lt}
use Rattle.std.proofs.lemmas.Bool.Decides.{nat_tests}
use Rattle.std.proofs.lemmas.List.{take_at, take-append-le}
use Rattle.std.proofs.lemmas.List.Elements.{All-head, All-tail}
use Rattle.std.proofs.lemmas.List.Sums.{fold-append}
use Rattle.httparse.proofs.GrammarLemmas.{cons-append}
use Rattle.httparse.specs.Grammar.{is_token_byte, is_uri_byte, is_value_byte, AllPass, IsToken, LineEnd, crlf, lf, print_end, print_blank, print_version, Field, IsField, print_field, RequestHead, print_request, IsRequestHead, ReadsRequest}
use Rattle.tab_http.specs.HeadStates.{next_state, state_after}
use Rattle.tab_http.specs.declared.head_states.HeadState.{HeadState}
use Rattle.tab_http.specs.declared.head_states.HeadState.TheVariants.{Blank, Line, Start, Return, Ended}

-- ---- through lines

-- the bytes lead from one state to another
abbrev Leads : HeadState → List ℕ → HeadState → Type 0
Leads from bytes to = fold next_state from bytes ≡ to

through : (from middle to : HeadState) (xs ys : List ℕ) → Leads from xs middle → Leads middle ys to → Leads from (xs ++ ys) to
through from middle to xs ys first second = fold-append next_state from xs ys ∙ ap (λ (p : HeadState). fold next_state p ys) first ∙ second

-- bytes that are no line feeds stay within the line
within_line : (test : ℕ → Bool) → ((b : ℕ) → test b ≡ true → b ≢ 10) → (xs : List ℕ) → AllPass test xs → Leads Line xs Line
within_line test apart [] each = refl
within_line test apart (b ∷ xs) each =
    ap (λ t. fold next_state (cond t Start Line) xs) (ne_eqb b 10 (apart b (All-head (λ c. test c ≡ true) b xs each))) ∙ within_line test apart xs (All-tail (λ c. test c ≡ true) b xs each)

token_apart : (b : ℕ) → is_token_byte b ≡ true → b ≢ 10
unfolding is_token_byte
token_apart b token is = grind (arith, nat_tests)

token_apart_return : (b : ℕ) → is_token_byte b ≡ true → b ≢ 13
unfolding is_token_byte
token_apart_return b token is = grind (arith, nat_tests)

uri_apart : (b : ℕ) → is_uri_byte b ≡ true → b ≢ 10
uri_apart b token is = grind (arith, nat_tests)

value_apart : (b : ℕ) → is_value_byte b ≡ true → b ≢ 10
value_apart b token is = grind (arith, nat_tests)

-- a token begins a line
token_begins : (xs : List ℕ) → IsToken xs → Leads Blank xs Line × Leads Start xs Line
token_begins [] token = absurd (omega (arith, token.0))
token_begins (b ∷ xs) token =
    let first = All-head (λ c. is_token_byte c ≡ true) b xs token.1 in
    let rest = within_line is_token_byte token_apart xs (All-tail (λ c. is_token_byte c ≡ true) b xs token.1) in
    let feed = ne_eqb b 10 (token_apart b first) in
    let return = ne_eqb b 13 (token_apart_return b first) in (
      ap (λ t. fold next_state (cond (t || (b == 13)) Blank Line) xs) feed ∙ ap (λ t. fold next_state (cond (false || t) Blank Line) xs) return ∙ rest,
      ap (λ t. fold next_state (cond t Ended (cond (b == 13) Return Line)) xs) feed ∙ ap (λ t. fold next_state (cond t Return Line) xs) return ∙ rest,
    )

blank_lines : (ends : List LineEnd) → Leads Blank (print_blank ends) Blank
blank_lines [] = refl
blank_lines (crlf ∷ ends) = blank_lines ends
blank_lines (lf ∷ ends) = blank_lines ends

line_ends : (end : LineEnd) → Leads Line (print_end end) Start
line_ends crlf = refl
line_ends lf = refl

field_line : (f : Field) → IsField f → Leads Start (print_field f) Start
field_line f is =
    let name = (token_begins f.name is.name).1 in
    let raw = within_line is_value_byte value_apart f.raw is.raw in
    ap (fold next_state Start) (regroup f.name f.raw (print_end f.end)) ∙ through Start Line Start f.name (58 ∷ (f.raw ++ print_end f.end)) name (through Line Line Start f.raw (print_end f.end) raw (line_ends f.end))
  where
    regroup : (a b c : List ℕ) → a ++ 58 ∷ b ++ c ≡ a ++ (58 ∷ (b ++ c))
    regroup a b c = simp (append_assoc, cons-append)

field_lines : (fields : List Field) → All IsField fields → Leads Start (flat_map print_field fields) Start
field_lines [] each = refl
field_lines (f ∷ fields) each = through Start Start Start (print_field f) _ (field_line f (All-head IsField f fields each)) (field_lines fields (All-tail IsField f fields each))

version_line : (minor : ℕ) → minor ≤ 1 → Leads Line (print_version minor) Line
version_line minor small = ap (λ t. cond t Start Line) (ne_eqb (48 + minor) 10 (λ e. omega (arith, e)))

-- ---- the end of a head

-- what of a head comes before its last line
before_last : RequestHead → List ℕ
before_last h = print_blank h.blank ++ (h.method ++ 32 ∷ (h.target ++ 32 ∷ (print_version h.minor ++ (print_end h.line_end ++ flat_map print_field h.fields))))

head_is : (h : RequestHead) → print_request h ≡ before_last h ++ print_end h.last
unfolding before_last print_request
head_is h = regroup (print_blank h.blank) h.method h.target (print_version h.minor) (print_end h.line_end) (flat_map print_field h.fields) (print_end h.last)
  where
    regroup : (a b c d e f l : List ℕ) → a ++ b ++ 32 ∷ c ++ 32 ∷ d ++ e ++ (f ++ l) ≡ (a ++ (b ++ 32 ∷ (c ++ 32 ∷ (d ++ (e ++ f))))) ++ l
    regroup a b c d e f l = simp (append_assoc, cons-append)

leads_before : (h : RequestHead) → IsRequestHead h → Leads Blank (before_last h) Start
unfolding before_last
leads_before h is =
    let fields = flat_map print_field h.fields in
    let line = print_version h.minor ++ (print_end h.line_end ++ fields) in
    let section = field_lines h.fields is.fields in
    let first = through Line Start Start (print_end h.line_end) fields (line_ends h.line_end) section in
    let version = through Line Line Start (print_version h.minor) (print_end h.line_end ++ fields) (version_line h.minor is.minor) first in
    let target = through Line Line Start h.target (32 ∷ line) (within_line is_uri_byte uri_apart h.target is.target.1) version in
    let method = through Blank Line Start h.method (32 ∷ (h.target ++ 32 ∷ line)) (token_begins h.method is.method).0 target in
    through Blank Blank Start (print_blank h.blank) (h.method ++ 32 ∷ (h.target ++ 32 ∷ line)) (blank_lines h.blank) method

-- the last byte of a head is the first behind which it may have ended
record Closing (h : RequestHead) : Type 0 where
  front : List ℕ
  whole : print_request h ≡ front ++ 10 ∷ []
  not_yet : state_after front ≢ Ended
  ended : state_after (print_request h) ≡ Ended

closing : (h : RequestHead) → IsRequestHead h → Closing h
closing h is = by_end h.last (head_is h)
  where
    before : Leads Blank (before_last h) Start
    before = leads_before h is

    by_end : (last : LineEnd) → print_request h ≡ before_last h ++ print_end last → Closing h
    by_end crlf whole =
        let return : state_after (before_last h ++ 13 ∷ []) ≡ Return = through Blank Start Return (before_last h) (13 ∷ []) before refl in
        record {
          front = before_last h ++ 13 ∷ [];
          whole = whole ∙ sym (append_assoc (before_last h) (13 ∷ []) (10 ∷ []));
          not_yet = λ e. absurd (cc);
          ended = ap state_after whole ∙ through Blank Start Ended (before_last h) (13 ∷ 10 ∷ []) before refl;
        }
    by_end lf whole =
        let start : state_after (before_last h) ≡ Start = before in
        record {
          front = before_last h;
          whole = whole;
          not_yet = λ e. absurd (cc);
          ended = ap state_after whole ∙ through Blank Start Ended (before_last h) (10 ∷ []) before refl;
        }

stays_ended : (xs : List ℕ) → Leads Ended xs Ended
stays_ended [] = refl
stays_ended (x ∷ xs) = stays_ended xs

-- bytes that begin with a head have an end of a head
pub head_ends : (bytes : List ℕ) (h : RequestHead) (rest : List ℕ) → ReadsRequest bytes h rest → state_after bytes ≡ Ended
head_ends bytes h rest reads = ap state_after reads.1 ∙ through Blank Ended Ended (print_request h) rest (closing h reads.0).ended (stays_ended rest)

-- bytes in which a head may have ended have the whole head, if any that goes on behind them
pub ended_within : (bytes more : List ℕ) (h : RequestHead) (rest : List ℕ) → state_after bytes ≡ Ended → ReadsRequest (bytes ++ more) h rest → length (print_request h) ≤ length bytes
ended_within bytes more h rest ended reads = ⊎_elim (λ short. absurd (too_short short)) (λ long. long) (cases_lt (length bytes) (length (print_request h)))
  where
    last : Closing h
    last = closing h reads.0

    too_short : length bytes < length (print_request h) → ⊥
    too_short short =
        let size = length bytes in
        let inside : size ≤ length last.front = omega (arith, ap length last.whole, length-append last.front (10 ∷ []), short) in
        let parts : bytes ++ more ≡ last.front ++ (10 ∷ rest) = reads.1 ∙ ap (λ (xs : List ℕ). xs ++ rest) last.whole ∙ append_assoc last.front (10 ∷ []) rest in
        let front : bytes ≡ take size last.front = sym (take_at bytes more size refl) ∙ ap (take size) parts ∙ take-append-le size last.front (10 ∷ rest) inside in
        let split : last.front ≡ bytes ++ drop size last.front = sym (take-append-drop size last.front) ∙ ap (λ (xs : List ℕ). xs ++ drop size last.front) (sym front) in
        last.not_yet (ap state_after split ∙ through Blank Ended Ended bytes (drop size last.front) ended (stays_ended (drop size last.front)))
