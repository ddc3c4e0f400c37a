-- What the bytes of a call come to: one message, which asks something or is refused, or no message.
use Rattle.std.specs.Prelude.{◌≡◌, ℕ, List, [], ◌∷◌, Some, Result, Ok, Err}
use Rattle.tab_auth.specs.SignedRequests.{IsSigned}
use Rattle.tab_auth.specs.declared.signatures.Keys.{Keys}
use Rattle.tab_http.specs.Messages.{Answer, Spells}
use Rattle.tab_http.specs.declared.messages.Message.{Message}
use Rattle.tab_http.specs.declared.refusals.HttpRefused.{HttpRefused}
use Rattle.tab_http.specs.declared.refusals.HttpRefused.TheVariants as http
use Rattle.tab_service.specs.Decisions.{IsDecision}
use Rattle.tab_service.specs.Refusals.{http_fault}
use Rattle.tab_service.specs.Signing.{signed_of}
use Rattle.tab_service.specs.declared.requests.decide.Decided.{Decided}
use Rattle.tab_service.specs.declared.requests.decide.Decided.TheVariants.{No}

-- a message with nothing behind it
abbrev pub alone : Message → List ℕ → Result Message HttpRefused
alone message [] = Ok message
alone message (b ∷ bytes) = Err http.EndInside

-- where a message is due, an end before its first byte is one inside it
abbrev pub inside : HttpRefused → HttpRefused
inside http.EndBetween = http.EndInside
inside refused = refused

-- one whole message: bytes behind it, or none at all, are no message
abbrev pub whole : Answer → Result Message HttpRefused
whole (Ok found) = alone found.0 found.1
whole (Err refused) = Err (inside refused)

-- the bytes are this message, or are refused so
pub record AreRead (bytes : List ℕ) (found : Result Message HttpRefused) : Type 0 where
  pub answer : Answer
  pub spells : Spells bytes answer
  pub found_is : found ≡ whole answer

-- what the bytes come to at a moment: a request to the account, or the reply to a refusal
pub data ComeTo (keys : Keys) (moment : ℕ) (bytes : List ℕ) (decided : Decided) : Type 0 where
  as_message : (message : Message) → AreRead bytes (Ok message) → IsDecision keys moment message decided → ComeTo keys moment bytes decided
  as_none : (refused : HttpRefused) (reply : List ℕ) → AreRead bytes (Err refused) → http_fault refused ≡ Some reply → decided ≡ No reply → ComeTo keys moment bytes decided

-- the bytes are one message, signed with the account's key at that moment
pub record AreSigned (account key bytes : List ℕ) (moment : ℕ) : Type 0 where
  pub message : Message
  pub read : AreRead bytes (Ok message)
  pub signed : IsSigned account key (signed_of message) moment
