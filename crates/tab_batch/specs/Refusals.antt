-- What a batch gives, and why it is refused.
use Rattle.std.specs.Prelude.{◌≡◌, ℕ, List, ◌∷◌, ◌++◌, length, Result, Ok, Err, ⊤}
use Rattle.tab_http.specs.declared.messages.Message.{Message}
use Rattle.tab_batch.specs.Parts.{requests_of}
use Rattle.tab_batch.specs.Requests.{AreRequests, IsNoRequest}
use Rattle.tab_batch.specs.declared.refusals.BatchRefused.{BatchRefused}
use Rattle.tab_batch.specs.declared.refusals.BatchRefused.TheVariants.{BadMultipart, BadPart, Memory}

-- the requests of the batch are these messages
pub record IsBatch (boundary bytes : List ℕ) (messages : List Message) : Type 0 where
  pub parts : List (List ℕ)
  pub cut : requests_of boundary bytes ≡ Ok parts
  pub read : AreRequests parts messages

-- so many parts are requests, and the one behind them is none
pub record FirstBad (parts : List (List ℕ)) (index : ℕ) : Type 0 where
  pub front : List (List ℕ)
  pub messages : List Message
  pub part : List ℕ
  pub more : List (List ℕ)
  pub are : parts ≡ front ++ part ∷ more
  pub count : length front ≡ index
  pub before : AreRequests front messages
  pub bad : IsNoRequest part

-- why a batch is refused
abbrev pub Refuses : List ℕ → List ℕ → BatchRefused → Type 0
Refuses boundary bytes (BadMultipart at) = requests_of boundary bytes ≡ Err at
Refuses boundary bytes (BadPart index) = (parts : List (List ℕ)) × (requests_of boundary bytes ≡ Ok parts) × FirstBad parts index
Refuses boundary bytes Memory = ⊤

-- why parts are refused
abbrev pub PartsRefused : List (List ℕ) → BatchRefused → Type 0
PartsRefused parts (BadMultipart at) = ⊥
PartsRefused parts (BadPart index) = FirstBad parts index
PartsRefused parts Memory = ⊤

abbrev pub Answer : Type 0
Answer = Result (List Message) BatchRefused

-- the refusals that the bytes decide
abbrev pub IsDecided : BatchRefused → Type 0
IsDecided (BadMultipart at) = ⊤
IsDecided (BadPart index) = ⊤
IsDecided Memory = ⊥

-- the answer to a batch where memory is found
abbrev pub IsBatchAnswer : List ℕ → List ℕ → Answer → Type 0
IsBatchAnswer boundary bytes (Ok messages) = IsBatch boundary bytes messages
IsBatchAnswer boundary bytes (Err refused) = IsDecided refused × Refuses boundary bytes refused
