-- A head that was parsed, its parts, and what bytes behind it change.
use Rattle.std.proofs.Common.{◌≡◌, ℕ, ◌<◌, ◌≤◌, min, true, List, [], ◌∷◌, ◌++◌, length, take, drop, map, refl, sym, ap, ◌∙◌, arith, append_assoc, length-append, take-append-drop}
use Rattle.std.specs.Prelude.{All, IsUtf8, Option, Some, None, MatchOption, Result, Ok, Err, IfOk}
use Rattle.std.proofs.lemmas.Bool.Decides.{nat_tests}
use Rattle.std.proofs.lemmas.List.{drop_at, take_at, take-take, length-map, length-take}
use Rattle.std.proofs.lemmas.List.Elements.{All-cons, All-nil, All-head, All-tail, All-weaker}
use Rattle.std.proofs.lemmas.Str.{IsUtf8-from_ascii}
use Rattle.std.proofs.lemmas.Str.Ascii.{IsAscii-from_all}
use Rattle.httparse.specs.Grammar.{is_token_byte, IsToken, Field, IsField, RequestHead, print_request, ReadsRequest}
use Rattle.httparse.specs.Spans.{span_bytes, header_bytes, name_and_value, IsRequestAt, IsRequestWithin}
use Rattle.httparse.specs.declared.spans.HeaderSpan.{HeaderSpan}
use Rattle.httparse.specs.declared.spans.RequestSpans.{RequestSpans}
use Rattle.tab_outside.specs.declared.Memory.{Memory}
use Rattle.tab_http.specs.Heads.{HasNoHead, header_of, IsHead, IsFrontHead, header_at}
use Rattle.tab_http.specs.declared.heads.Head.{Head}
use Rattle.tab_http.specs.declared.TheConstants.{LONGEST_HEAD, MOST_HEADERS}

-- ---- the parts of a head

token_is_ascii : (b : ℕ) → is_token_byte b ≡ true → b < 128
unfolding is_token_byte
token_is_ascii b token = grind (arith, nat_tests)

pub token_text : (bytes : List ℕ) → IsToken bytes → IsUtf8 bytes
token_text bytes token = IsUtf8-from_ascii _ (IsAscii-from_all _ (All-weaker (λ b. is_token_byte b ≡ true) (λ b. b < 128) token_is_ascii _ token.1))

names_same : (a b : List ℕ × List ℕ) (xs ys : List (List ℕ × List ℕ)) → a ∷ xs ≡ b ∷ ys → (a.0 ≡ b.0) × (a.1 ≡ b.1) × (xs ≡ ys)
names_same a b xs ys e =
    let first : a ≡ b = cc in
    (ap (λ (p : List ℕ × List ℕ). p.0) first, ap (λ (p : List ℕ × List ℕ). p.1) first, cc)

abbrev IsNamed : List ℕ → HeaderSpan → Type 0
IsNamed buf span = IsUtf8 (span_bytes buf span.name)

-- each name is text
pub names_text : (buf : List ℕ) (spans : List HeaderSpan) (fields : List Field) → map (header_bytes buf) spans ≡ map name_and_value fields → All IsField fields
    → All (λ span. IsUtf8 (span_bytes buf span.name)) spans
names_text buf [] fields same each = All-nil (IsNamed buf)
names_text buf (s ∷ spans) [] same each = absurd (cc)
names_text buf (s ∷ spans) (f ∷ fields) same each =
    let parts = names_same (header_bytes buf s) (name_and_value f) _ _ same in
    All-cons (IsNamed buf) s spans (rw parts.0 (token_text f.name (All-head IsField f fields each).name)) (names_text buf spans fields parts.2 (All-tail IsField f fields each))

headers_same : (buf : List ℕ) (spans : List HeaderSpan) (fields : List Field) → map (header_bytes buf) spans ≡ map name_and_value fields → map (header_at buf) spans ≡ map header_of fields
headers_same buf [] [] same = refl
headers_same buf [] (f ∷ fields) same = absurd (cc)
headers_same buf (s ∷ spans) [] same = absurd (cc)
headers_same buf (s ∷ spans) (f ∷ fields) same =
    let parts = names_same (header_bytes buf s) (name_and_value f) _ _ same in
    let first : header_at buf s ≡ header_of f = λ i. record { name = parts.0 i; value = parts.1 i } in
    let rest = headers_same buf spans fields parts.2 in
    cc

pub front_head : (buf : List ℕ) (spans : List HeaderSpan) (r : RequestSpans) (h : RequestHead) (head : Head)
    → IsRequestWithin buf spans r → IsRequestAt buf spans r h → length spans ≤ MOST_HEADERS
    → head.method ≡ span_bytes buf r.method → head.target ≡ span_bytes buf r.path → head.minor ≡ r.version → head.headers ≡ map (header_at buf) (take r.headers spans) → head.len ≡ r.len
    → IsFrontHead buf h head
front_head buf spans r h head within at room method target minor headers len = record {
  reads = rw len at.reads;
  few = omega (arith, length-map h.fields name_and_value, length-map (take r.headers spans) (header_bytes buf), ap length at.fields, length-take r.headers spans, room);
  parts = record {
    method = method ∙ at.method;
    target = target ∙ at.path;
    minor = minor ∙ at.version;
    headers = headers ∙ headers_same buf (take r.headers spans) h.fields at.fields;
    len = len ∙ at.len;
  };
}

-- ---- heads and what is behind them

-- a head that ends in the front of the bytes is at the front of them all
pub whole_head : (bytes : List ℕ) (n : ℕ) (h : RequestHead) (head : Head) → n ≤ LONGEST_HEAD → IsFrontHead (take n bytes) h head → IsHead bytes head
whole_head bytes n h head within front =
    let ends : take n bytes ≡ print_request h ++ drop head.len (take n bytes) = front.reads.1 in
    let size : length (print_request h) ≡ head.len = sym front.parts.len in
    let whole : bytes ≡ print_request h ++ (drop head.len (take n bytes) ++ drop n bytes) =
    sym (take-append-drop n bytes) ∙ ap (λ (xs : List ℕ). xs ++ drop n bytes) ends ∙ append_assoc (print_request h) _ _ in
    let behind : drop head.len bytes ≡ drop head.len (take n bytes) ++ drop n bytes = ap (drop head.len) whole ∙ drop_at (print_request h) _ head.len size in
    record {
      h = h;
      begins = record {
        reads = (front.reads.0, rw behind whole);
        few = front.few;
        short = omega (arith, ap length ends, length-append (print_request h) (drop head.len (take n bytes)), length-take n bytes, within);
      };
      parts = front.parts;
    }

-- a head that ends within the front of the bytes is a head of this front
pub front_reads : (bytes : List ℕ) (n : ℕ) (h : RequestHead) (rest : List ℕ) → ReadsRequest bytes h rest → length (print_request h) ≤ n → ReadsRequest (take n bytes) h (drop (length (print_request h)) (take n bytes))
front_reads bytes n h rest reads short =
    let size = length (print_request h) in
    let same : take size (take n bytes) ≡ print_request h = take-take size n bytes short ∙ ap (take size) reads.1 ∙ take_at (print_request h) rest size refl in
    (reads.0, sym (take-append-drop size (take n bytes)) ∙ ap (λ (xs : List ℕ). xs ++ drop size (take n bytes)) same)

-- the front of the bytes shows that they begin with no head
pub no_whole_head : (bytes : List ℕ) (n : ℕ) → n ≡ min (length bytes) LONGEST_HEAD → ((h : RequestHead) (rest : List ℕ) → ReadsRequest (take n bytes) h rest → MOST_HEADERS < length h.fields) → HasNoHead bytes
no_whole_head bytes n least none h rest begins =
    let inside : length (print_request h) ≤ length bytes = omega (arith, ap length begins.reads.1, length-append (print_request h) rest) in
    let many = none h _ (front_reads bytes n h rest begins.reads (omega (arith, begins.short, least))) in
    absurd (omega (arith, many, begins.few))

pub whole_found : (bytes : List ℕ) (n : ℕ) (r : Result (Option Head) Memory) → n ≡ min (length bytes) LONGEST_HEAD
    → IfOk r (λ found. MatchOption found ((h : RequestHead) (rest : List ℕ) → ReadsRequest (take n bytes) h rest → MOST_HEADERS < length h.fields) (λ head. (h : RequestHead) × IsFrontHead (take n bytes) h head))
    → IfOk r (λ found. MatchOption found (HasNoHead bytes) (IsHead bytes))
whole_found bytes n (Ok (Some head)) least found = whole_head bytes n found.0 head (omega arith) found.1
whole_found bytes n (Ok None) least none = no_whole_head bytes n least none
whole_found bytes n (Err e) least found = tt
