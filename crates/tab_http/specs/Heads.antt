-- Which bytes are the head of a request, in the grammar of `httparse`, and its parts (RFC 9112, sections 2 to 5).
use Rattle.std.specs.Prelude.{◌≡◌, ℕ, ◌≤◌, List, length, map, drop}
use Rattle.httparse.specs.Grammar.{Field, field_value, RequestHead, print_request, ReadsRequest}
use Rattle.httparse.specs.Spans.{span_bytes}
use Rattle.httparse.specs.declared.spans.HeaderSpan.{HeaderSpan}
use Rattle.tab_http.specs.declared.heads.Head.{Head}
use Rattle.tab_http.specs.declared.messages.Header.{Header}
use Rattle.tab_http.specs.declared.TheConstants.{LONGEST_HEAD, MOST_HEADERS}

-- the bytes begin with a head of at most 64 headers that ends within 32,768 bytes, and the rest is behind it
pub record BeginsWithHead (bytes : List ℕ) (h : RequestHead) (rest : List ℕ) : Type 0 where
  pub reads : ReadsRequest bytes h rest
  pub few : length h.fields ≤ MOST_HEADERS
  pub short : length (print_request h) ≤ LONGEST_HEAD

-- the bytes begin with no such head
abbrev pub HasNoHead : List ℕ → Type 0
HasNoHead bytes = (h : RequestHead) (rest : List ℕ) → BeginsWithHead bytes h rest → ⊥

-- a name, and a value without the blanks around it
abbrev pub header_of : Field → Header
header_of f = record { name = f.name; value = field_value f }

-- the headers of a head, in order
abbrev pub headers_of : RequestHead → List Header
headers_of h = map header_of h.fields

-- the parts of the head h
pub record HasParts (h : RequestHead) (head : Head) : Type 0 where
  pub method : head.method ≡ h.method
  pub target : head.target ≡ h.target
  pub minor : head.minor ≡ h.minor
  pub headers : head.headers ≡ headers_of h
  pub len : head.len ≡ length (print_request h)

-- the bytes begin with such a head, and these are its parts
pub record IsHead (bytes : List ℕ) (head : Head) : Type 0 where
  pub h : RequestHead
  pub begins : BeginsWithHead bytes h (drop head.len bytes)
  pub parts : HasParts h head

-- the same for a head of any length
pub record IsFrontHead (bytes : List ℕ) (h : RequestHead) (head : Head) : Type 0 where
  pub reads : ReadsRequest bytes h (drop head.len bytes)
  pub few : length h.fields ≤ MOST_HEADERS
  pub parts : HasParts h head

-- the header that a span covers
abbrev pub header_at : List ℕ → HeaderSpan → Header
header_at bytes span = record { name = span_bytes bytes span.name; value = span_bytes bytes span.value }
