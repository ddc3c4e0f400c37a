-- The request of a part (RFC 9112, sections 2 and 3; the URL Standard for absolute addresses).
use Rattle.std.specs.Prelude.{◌≡◌, ℕ, List, [], ◌∷◌, ◌++◌, length, drop, Bool, false, ◌||◌, ◌==◌, Option, Some, None, Ok, Err, codes, bytes_eq, if◌then◌else◌}
use Rattle.httparse.specs.Grammar.{RequestHead, print_request}
use Rattle.tab_http.specs.Heads.{BeginsWithHead}
use Rattle.tab_http.specs.Messages.{message_of}
use Rattle.tab_http.specs.declared.messages.Message.{Message}
use Rattle.url.specs.Parser.{Parsed, parse_url}
use Rattle.url.specs.Parts.{Parts}

-- what a request is read before, so that its head ends
abbrev pub ending : List ℕ
ending = 13 ∷ 10 ∷ 13 ∷ 10 ∷ []

-- ---- targets

abbrev pub with_query : List ℕ → Option (List ℕ) → List ℕ
with_query path None = path
with_query path (Some query) = path ++ 63 ∷ query

abbrev pub is_web : List ℕ → Bool
is_web scheme = bytes_eq scheme (codes "http") || bytes_eq scheme (codes "https")

-- the path and the query of an address of the web
abbrev pub target_on_web : Parsed Parts → Option (List ℕ)
target_on_web (Err e) = None
target_on_web (Ok url) = if is_web url.scheme then Some (with_query url.path url.query) else None

-- a path begins with a slash, which is 47
abbrev pub is_path : List ℕ → Bool
is_path [] = false
is_path (b ∷ target) = b == 47

-- the path and the query that a target names
unfoldable pub target_of : List ℕ → Option (List ℕ)
target_of target = if is_path target then Some target else target_on_web (parse_url None target)

-- ---- requests

-- The message of a head and the bytes behind it, with its path in place of an address. What the head says of the body's
-- length does not count.
abbrev pub addressed : RequestHead → List ℕ → List ℕ → Message
addressed h body target = record (message_of h body) { target = target }

-- the bytes are this request
pub record IsRequest (bytes : List ℕ) (message : Message) : Type 0 where
  pub h : RequestHead
  pub rest : List ℕ
  pub begins : BeginsWithHead (bytes ++ ending) h rest
  pub target : List ℕ
  pub named : target_of h.target ≡ Some target
  pub is : message ≡ addressed h (drop (length (print_request h)) bytes) target

-- the bytes are no request
abbrev pub IsNoRequest : List ℕ → Type 0
IsNoRequest bytes = (message : Message) → IsRequest bytes message → ⊥

-- each is its request
abbrev pub AreRequests : List (List ℕ) → List Message → Type 0
AreRequests [] [] = Unit {0}
AreRequests [] (message ∷ messages) = ⊥
AreRequests (part ∷ parts) [] = ⊥
AreRequests (part ∷ parts) (message ∷ messages) = IsRequest part message × AreRequests parts messages
