-- What bytes spell: a request and what is behind it, or the first refusal (RFC 9112, sections 2 and 6).
use Rattle.std.specs.Prelude.{◌≡◌, ℕ, ◌<◌, ◌≤◌, ◌⊎◌, nat_le, List, length, take, drop, Result, Ok, Err, if◌then◌else◌, ⊤}
use Rattle.httparse.specs.Grammar.{RequestHead, MayBecomeRequest}
use Rattle.httparse.specs.Spans.{RequestOverflows}
use Rattle.tab_http.specs.Headers.{body_size, closes}
use Rattle.tab_http.specs.Heads.{BeginsWithHead, HasNoHead, headers_of}
use Rattle.tab_http.specs.declared.messages.Message.{Message}
use Rattle.tab_http.specs.declared.refusals.HttpRefused.{HttpRefused}
use Rattle.tab_http.specs.declared.refusals.HttpRefused.TheVariants.{EndBetween, EndInside, Malformed, HeadTooLong}
use Rattle.tab_http.specs.declared.TheConstants.{LONGEST_HEAD, MOST_HEADERS}

-- a message and the bytes behind it, or a refusal
abbrev pub Answer : Type 0
Answer = Result (Message × List ℕ) HttpRefused

-- the message of a head and a body
abbrev pub message_of : RequestHead → List ℕ → Message
message_of h body = record { method = h.method; target = h.target; headers = headers_of h; body = body; close = closes h.minor (headers_of h) }

-- the size of the body that a head announces, or why it has none
abbrev pub size_of_body : RequestHead → Result ℕ HttpRefused
size_of_body h = body_size h.method (headers_of h)

abbrev pub with_body : RequestHead → List ℕ → Result ℕ HttpRefused → Answer
with_body h behind (Err refused) = Err refused
with_body h behind (Ok size) = if nat_le size (length behind) then Ok (message_of h (take size behind), drop size behind) else Err EndInside

-- what a head and the bytes behind it spell
abbrev pub answer_of : RequestHead → List ℕ → Answer
answer_of h behind = with_body h behind (size_of_body h)

-- How so many bytes are refused that begin with no head. Where they are fewer than a head may have, the parser decides
-- between two refusals.
abbrev pub RefusesHeadless : ℕ → HttpRefused → Type 0
RefusesHeadless size EndBetween = size ≡ 0
RefusesHeadless size EndInside = (0 < size) × (size < LONGEST_HEAD)
RefusesHeadless size Malformed = (0 < size) × (size < LONGEST_HEAD)
RefusesHeadless size HeadTooLong = LONGEST_HEAD ≤ size
RefusesHeadless size _ = ⊥

-- what bytes spell, when no more follow
pub data Spells (bytes : List ℕ) (answer : Answer) : Type 0 where
  behind_head : (h : RequestHead) (behind : List ℕ) → BeginsWithHead bytes h behind → answer ≡ answer_of h behind → Spells bytes answer
  without_head : (refused : HttpRefused) → HasNoHead bytes → RefusesHeadless (length bytes) refused → answer ≡ Err refused → Spells bytes answer

-- the two refusals between which the parser decides
abbrev pub IsParsers : Answer → Type 0
IsParsers answer = (answer ≡ Err Malformed) ⊎ (answer ≡ Err EndInside)

-- What the parser says of bytes without a head: that whatever follows them makes no head, or that some bytes may.
abbrev pub IsParsed : List ℕ → HttpRefused → Type 0
IsParsed bytes Malformed = RequestOverflows MOST_HEADERS bytes
IsParsed bytes EndInside = MayBecomeRequest bytes
IsParsed bytes _ = ⊤

-- more bytes may change what these spell, since their head has not ended, or their body is not whole
pub data IsOpen (bytes : List ℕ) : Type 0 where
  in_head : HasNoHead bytes → length bytes < LONGEST_HEAD → IsOpen bytes
  in_body : (h : RequestHead) (behind : List ℕ) (size : ℕ) → BeginsWithHead bytes h behind → size_of_body h ≡ Ok size → length behind < size → IsOpen bytes
