-- What reading a message takes from a source, and what it leaves.
use Rattle.std.specs.Prelude.{◌≡◌, ℕ, ◌<◌, ◌≤◌, ◌⊎◌, List, [], ◌++◌, length, Option, Some, Result, Ok, Err, ⊤}
use Rattle.std.specs.Io.KnownBytes.{Consumes, IsAtEnd}
use Rattle.tab_http.specs.Heads.{HasNoHead}
use Rattle.tab_http.specs.Messages.{RefusesHeadless, Spells, IsParsed, IsOpen}
use Rattle.tab_http.specs.declared.messages.Message.{Message}
use Rattle.tab_http.specs.declared.refusals.HttpRefused.{HttpRefused}
use Rattle.tab_http.specs.declared.refusals.HttpRefused.TheVariants.{EndInside, HeadTooLong, ReadFault, Memory}
use Rattle.tab_outside.specs.declared.transfers.FillRefused.{FillRefused}
use Rattle.tab_outside.specs.declared.transfers.FillRefused.TheVariants as fill
use Rattle.tab_http.specs.declared.TheConstants.{LONGEST_READ}

-- ---- messages

-- No read was made in vain: nothing came, or the bytes before the last were open, and these are as many as one read asks for.
pub data WereNeeded (before came : List ℕ) : Type 0 where
  none : came ≡ [] → WereNeeded before came
  last : (front more : List ℕ) → came ≡ front ++ more → length more ≤ LONGEST_READ → IsOpen (before ++ front) → WereNeeded before came

-- what came behind the bytes before makes them spell the message, and those after are behind it
pub record TookMessage (old new : Option (List ℕ)) (before after : List ℕ) (message : Message) : Type 0 where
  pub came : List ℕ
  pub consumed : Consumes old new came
  pub needed : WereNeeded before came
  pub spells : Spells (before ++ came) (Ok (message, after))

-- the bytes are refused so, whatever follows them
abbrev pub StaysRefused : List ℕ → HttpRefused → Type 0
StaysRefused bytes refused = (more : List ℕ) → Spells (bytes ++ more) (Err refused)

-- what came behind the bytes before makes them be refused, either for good or as the input ends
pub record TookRefused (old new : Option (List ℕ)) (before : List ℕ) (refused : HttpRefused) : Type 0 where
  pub came : List ℕ
  pub consumed : Consumes old new came
  pub needed : WereNeeded before came
  pub spells : Spells (before ++ came) (Err refused)
  pub parsed : HasNoHead (before ++ came) → IsParsed (before ++ came) refused
  pub settled : StaysRefused (before ++ came) refused ⊎ IsAtEnd new

-- what came behind the bytes before leaves them open
pub record TookOpen (old new : Option (List ℕ)) (before : List ℕ) : Type 0 where
  pub came : List ℕ
  pub consumed : Consumes old new came
  pub still_open : IsOpen (before ++ came)

-- what came behind the bytes before was needed
pub record TookNeeded (old new : Option (List ℕ)) (before : List ℕ) : Type 0 where
  pub came : List ℕ
  pub consumed : Consumes old new came
  pub needed : WereNeeded before came

-- what was taken where no message is given
abbrev pub Refuses : Option (List ℕ) → Option (List ℕ) → List ℕ → HttpRefused → Type 0
Refuses old new before ReadFault = TookOpen old new before
Refuses old new before Memory = TookNeeded old new before
Refuses old new before refused = TookRefused old new before refused

-- the answer is what all the bytes spell: those before, and those that were left
abbrev pub AnswersAll : Option (List ℕ) → List ℕ → List ℕ → List ℕ → Result Message HttpRefused → Type 0
AnswersAll new left before after (Ok message) = (rest : List ℕ) × (new ≡ Some rest) × Spells (before ++ left) (Ok (message, after ++ rest))
AnswersAll new left before after (Err ReadFault) = ⊤
AnswersAll new left before after (Err Memory) = ⊤
AnswersAll new left before after (Err refused) = Spells (before ++ left) (Err refused)

-- ---- heads

-- what came stands behind the bytes before, and was needed
pub record Gathered (old new : Option (List ℕ)) (before after : List ℕ) : Type 0 where
  pub came : List ℕ
  pub consumed : Consumes old new came
  pub needed : WereNeeded before came
  pub behind : after ≡ before ++ came

-- the bytes begin with no head, whatever follows
abbrev pub NeverHasHead : List ℕ → Type 0
NeverHasHead bytes = (more : List ℕ) → HasNoHead (bytes ++ more)

-- bytes without a head are refused, as too many or as the input ends
pub record WithoutHead (new : Option (List ℕ)) (bytes : List ℕ) (refused : HttpRefused) : Type 0 where
  pub no_head : HasNoHead bytes
  pub cause : RefusesHeadless (length bytes) refused
  pub parsed : IsParsed bytes refused
  pub settled : (refused ≡ HeadTooLong) ⊎ IsAtEnd new

-- what bytes are where no head is given
abbrev pub HeadRefused : Option (List ℕ) → List ℕ → HttpRefused → Type 0
HeadRefused new bytes ReadFault = IsOpen bytes
HeadRefused new bytes Memory = ⊤
HeadRefused new bytes refused = WithoutHead new bytes refused

-- how a read may be refused
abbrev pub IsReadRefusal : HttpRefused → Type 0
IsReadRefusal ReadFault = ⊤
IsReadRefusal Memory = ⊤
IsReadRefusal _ = ⊥

-- what bytes are where a read was refused
abbrev pub ReadRefused : List ℕ → HttpRefused → Type 0
ReadRefused bytes ReadFault = IsOpen bytes
ReadRefused bytes Memory = ⊤
ReadRefused bytes _ = ⊥

-- ---- bodies

-- what came behind the bytes of a body completes it, and those after are behind it; nothing came where nothing was missing
pub record TookBody (old new : Option (List ℕ)) (there after : List ℕ) (size : ℕ) (body : List ℕ) : Type 0 where
  pub came : List ℕ
  pub consumed : Consumes old new came
  pub whole : there ++ came ≡ body ++ after
  pub exact : length body ≡ size
  pub missing : 0 < length came → after ≡ []

-- what came behind the bytes of a body does not complete it
pub record TookPart (old new : Option (List ℕ)) (there : List ℕ) (size : ℕ) : Type 0 where
  pub came : List ℕ
  pub consumed : Consumes old new came
  pub short : length (there ++ came) < size

-- a body may be refused so
abbrev pub BodyRefused : Option (List ℕ) → Option (List ℕ) → List ℕ → ℕ → HttpRefused → Type 0
BodyRefused old new there size EndInside = TookPart old new there size × IsAtEnd new
BodyRefused old new there size ReadFault = TookPart old new there size
BodyRefused old new there size Memory = (came : List ℕ) × Consumes old new came × (0 < length came → length (there ++ came) < size)
BodyRefused old new there size _ = ⊥

-- what a body that did not come whole is answered with
abbrev pub refusal_for : FillRefused → HttpRefused
refusal_for fill.Ended = EndInside
refusal_for fill.Failed = ReadFault
refusal_for fill.Memory = Memory
