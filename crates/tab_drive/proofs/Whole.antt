-- What the reading of a message from its bytes alone tells.
use Rattle.std.proofs.Common.{◌≡◌, ℕ, ◌⊎◌, List, [], ◌++◌, refl, ap, ◌∙◌, subst, inl, inr, append-nil, Option, Some, Result, Ok, Err, IfOk}
use Rattle.std.specs.Prelude.{IfErr}
use Rattle.tab_http.specs.Messages.{Answer, Spells}
use Rattle.tab_http.specs.Reading.{AnswersAll}
use Rattle.tab_http.specs.declared.messages.Message.{Message}
use Rattle.tab_http.specs.declared.refusals.HttpRefused.{HttpRefused}
use Rattle.tab_http.specs.declared.refusals.HttpRefused.TheVariants as http
use Rattle.tab_drive.specs.Messages.{alone, inside, AreRead}

spelled_alone : (bytes given : List ℕ) (answer : Answer) → given ≡ bytes → Spells (given ++ []) answer → Spells bytes answer
spelled_alone bytes given answer is spells = subst (λ (b : List ℕ). Spells b answer) (append-nil given ∙ is) spells

nothing_more : (rest : List ℕ) → ◌≡◌ {A = Option (List ℕ)} (Some []) (Some rest) → rest ≡ []
nothing_more rest is = cc

-- a message that was read
pub read_alone : (bytes given behind : List ℕ) (message : Message) → given ≡ bytes → AnswersAll (Some []) [] given behind (Ok message) → AreRead bytes (alone message behind)
read_alone bytes given behind message is answers =
    let rest : answers.0 ≡ [] = nothing_more answers.0 answers.1 in
    let spells : Spells (given ++ []) (Ok (message, behind)) =
    subst (λ (b : List ℕ). Spells (given ++ []) (Ok (message, b))) (ap (λ (r : List ℕ). behind ++ r) rest ∙ append-nil behind) answers.2 in
    record { answer = Ok (message, behind); spells = spelled_alone bytes given (Ok (message, behind)) is spells; found_is = refl }

refused_whole : (bytes given : List ℕ) (refused : HttpRefused) → given ≡ bytes → Spells (given ++ []) (Err refused) → AreRead bytes (Err (inside refused))
refused_whole bytes given refused is spells = record { answer = Err refused; spells = spelled_alone bytes given (Err refused) is spells; found_is = refl }

-- bytes that were refused, where no read can fail
pub refused_alone : (bytes given behind : List ℕ) (refused : HttpRefused) → given ≡ bytes → (refused ≡ http.ReadFault → ⊥) → AnswersAll (Some []) [] given behind (Err refused)
    → (inside refused ≡ http.Memory) ⊎ AreRead bytes (Err (inside refused))
refused_alone bytes given behind http.EndBetween is sound answers = inr (refused_whole bytes given http.EndBetween is answers)
refused_alone bytes given behind http.EndInside is sound answers = inr (refused_whole bytes given http.EndInside is answers)
refused_alone bytes given behind http.Malformed is sound answers = inr (refused_whole bytes given http.Malformed is answers)
refused_alone bytes given behind http.HeadTooLong is sound answers = inr (refused_whole bytes given http.HeadTooLong is answers)
refused_alone bytes given behind http.NoLength is sound answers = inr (refused_whole bytes given http.NoLength is answers)
refused_alone bytes given behind http.BodyTooLong is sound answers = inr (refused_whole bytes given http.BodyTooLong is answers)
refused_alone bytes given behind http.ReadFault is sound answers = absurd (sound refl)
refused_alone bytes given behind http.Memory is sound answers = inl refl

-- what a reading tells by its kind
pub read_message : (bytes : List ℕ) (found : Result Message HttpRefused) → AreRead bytes found → IfOk found (λ message. AreRead bytes (Ok message))
read_message bytes (Ok message) read = read
read_message bytes (Err refused) read = tt

pub read_refusal : (bytes : List ℕ) (found : Result Message HttpRefused) → AreRead bytes found → IfErr found (λ refused. (refused ≡ http.Memory) ⊎ AreRead bytes (Err refused))
read_refusal bytes (Ok message) read = tt
read_refusal bytes (Err refused) read = inr read
